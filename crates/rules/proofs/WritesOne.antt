-- Document 01, "Numbers of refusal": stored bytes are one table, and writing and converting have one answer. Assumes nothing.
use Prim.Native.Nat.{ℕ}
use mathlib.Core.Path.{◌≡◌}
use mathlib.Core.List.{List}
use Rattle.rules.specs.Lines.{Spelling, line_text}
use Rattle.rules.specs.Fields.{Table}
use Rattle.rules.specs.Answers.{Answer, Holds, Takes, Writes, Converts}
use Rattle.rules.specs.Editions.{Edition, ed1, current, LineEdition}
use Rattle.rules.proofs.OneWriting
use Rattle.rules.proofs.OneStored.{one_stored, editions_apart}

pub holds_one : (e f : Edition) {bytes : List ℕ} {t u : Table} → Holds e bytes t → Holds f bytes u → t ≡ u
holds_one = OneWriting.holds_one one_stored editions_apart

pub takes_one : {bytes : List ℕ} {t u : Table} → Takes bytes t → Takes bytes u → t ≡ u
takes_one = OneWriting.takes_one one_stored editions_apart

pub writes_one : {l : LineEdition} {bytes : List ℕ} {room : ℕ} {a b : Answer} → Writes l bytes room a → Writes l bytes room b → a ≡ b
writes_one = OneWriting.writes_one one_stored editions_apart

pub two_editions : {bytes : List ℕ} {t u : Table} → Holds ed1 bytes t → Holds current bytes u → ⊥
two_editions = OneWriting.two_editions one_stored editions_apart

pub converts_one : (one_spelling : (s u : Spelling) → line_text s ≡ line_text u → s ≡ u) → {bytes : List ℕ} {room : ℕ} {a b : Answer}
    → Converts bytes room a → Converts bytes room b → a ≡ b
converts_one = OneWriting.converts_one one_stored editions_apart
