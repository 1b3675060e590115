-- The spelling of a line, or of a row, at a place of the output. Assumes nothing.
use Rattle.std.specs.Prelude.{ℕ, ◌≡◌, List, take, drop}
use Rattle.rules.specs.RowAnswers.{max_row}
use Rattle.rules.specs.Editions.{LineEdition}
use Rattle.rules.specs.Answers as rules
use Rattle.scan_line.specs.Steps.{scanned_by}
use Rattle.answers.specs.Delivered.{Answer, number_in, place_in, size_in}
use Rattle.lines.specs.Relabels.{Relabels, relabelled_of}
use Rattle.respell_row.specs.Relabelled.{relabelled_row_of}
use Rattle.rows.specs.Relabels.{RelabelsRow}
use Rattle.run_program.specs.declared.Input.{Input}
use Rattle.run_program.specs.declared.Input.TheVariants.{Lines, Rows}

-- what the calls for lines and for rows answer, by a machine of any bytes
unfoldable pub relabel_as : Input → List ℕ → List ℕ → ℕ → rules.Answer
relabel_as Lines machine line room = relabelled_of (scanned_by machine line) line room
relabel_as Rows machine row room = relabelled_row_of machine row room

-- what the rules say, in an edition of lines: an answer to a line of annotations, or to a row
pub data RelabelsAs (l : LineEdition) : Input → List ℕ → ℕ → rules.Answer → Type 0 where
  a_line_lem : {line : List ℕ} {room : ℕ} {a : rules.Answer} → Relabels l line room a → RelabelsAs l Lines line room a
  a_row : {row : List ℕ} {room : ℕ} {a : rules.Answer} → RelabelsRow l row room a → RelabelsAs l Rows row room a

-- an answer to a line, or to a row, with an output as long as a row may be, which suffices for both
pub record Answers (l : LineEdition) (input : Input) (line : List ℕ) (a : rules.Answer) : Type 0 where
  pub relabels : RelabelsAs l input line max_row a
  pub enough : a.number ≡ 8 → ⊥

-- output d is e, where the spelling that is answered stands at a place, and what stood before it is as it was
pub record Spelled (l : LineEdition) (input : Input) (line d : List ℕ) (at : ℕ) (e : List ℕ) (r : Answer) : Type 0 where
  pub answer : rules.Answer
  pub answers : Answers l input line answer
  pub number : number_in r ≡ answer.number
  pub place : place_in r ≡ answer.place
  pub len : size_in r ≡ answer.size
  pub stands : take (size_in r) (drop at e) ≡ take answer.size answer.out
  pub before : take at e ≡ take at d
