-- Demand 3: over all spellings that the rules permit, in either edition of lines, preferred or not and beyond all limits, no line spells two tables. And what
-- follows from it: tables that differ in order alone are one, and reading and converting have one answer. Assumes nothing.
use Prim.Native.Nat.{ℕ}
use mathlib.Core.Path.{◌≡◌}
use mathlib.Core.List.{List}
use Rattle.lang.specs.Order.{Each}
use Rattle.rules.specs.Editions.{LineEdition}
use Rattle.rules.specs.Fields.{Table, SameFields, Spells}
use Rattle.rules.specs.Answers.{Answer, Reads, Converts}
use Rattle.rules.proofs.PreferredSpells.{AllInOrder}
use Rattle.rules.proofs.OneTable as OneTable
use Rattle.rules.proofs.OneAnswer as OneAnswer
use Rattle.rules.proofs.WritesOne as WritesOne
use Rattle.shape.proofs.OneSpelling.{one_spelling}

pub unambiguous : {l : LineEdition} {t u : Table} {line : List ℕ} → Spells l t line → Spells l u line → t ≡ u
unambiguous = OneTable.unambiguous one_spelling

pub rearranged_one : {t u : Table} → Each SameFields t u → AllInOrder t → AllInOrder u → t ≡ u
rearranged_one = OneTable.rearranged_one one_spelling

pub reads_one : {l : LineEdition} {line : List ℕ} {room : ℕ} {a b : Answer} → Reads l line room a → Reads l line room b → a ≡ b
reads_one = OneAnswer.reads_one one_spelling

pub converts_one : {bytes : List ℕ} {room : ℕ} {a b : Answer} → Converts bytes room a → Converts bytes room b → a ≡ b
converts_one = WritesOne.converts_one one_spelling
