-- The preferred spelling of a line. Assumes nothing.
use Rattle.std.specs.Prelude.{ℕ, ◌≡◌, cond, List, eqb, ltb, length, take}
use Rattle.rules.specs.Limits.{max_line}
use Rattle.rules.specs.Answers.{Answer, refuses, Reads, Writes}
use Rattle.rules.specs.Editions.{LineEdition}
use Rattle.rules.specs.Largest.{max_table}
use Rattle.scan_line.specs.declared.Verdict.{Verdict}
use Rattle.scan_line.specs.Verdicts.{number_of, place_of}
use Rattle.respell_line.specs.Relabelled.{relabelled_over}

-- what reading the line of an edition and writing its table answer: the refusal of the reader, or what the writer gives for the table that was read
pub data Relabels (l : LineEdition) (line : List ℕ) (room : ℕ) : Answer → Type 0 where
  refused : {a : Answer} → Reads l line max_table a → (a.number ≡ 0 → ⊥) → Relabels l line room (refuses room a.number a.place)
  relabelled : {a b : Answer} → Reads l line max_table a → a.number ≡ 0 → Writes l (take a.size a.out) room b → Relabels l line room b

-- ---- what the code means, for a machine of any bytes

-- of a line whose shape was judged: the verdict's own number, or its spelling
abbrev pub relabelled_as : Verdict → List ℕ → ℕ → Answer
relabelled_as v line room = cond (eqb (number_of v) 0) (relabelled_over line room) (refuses room (number_of v) (place_of line v))

unfoldable pub relabelled_of : Verdict → List ℕ → ℕ → Answer
relabelled_of v line room = cond (ltb max_line (length line)) (refuses room 1 max_line) (relabelled_as v line room)
