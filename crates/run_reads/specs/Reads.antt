-- What is read of a line of the input, and into how many bytes of a table. Assumes nothing.
use Rattle.std.specs.Prelude.{◌≡◌, Bool, ℕ, List, length, take, drop}
use Rattle.scan_line.specs.Steps.{scanned_by}
use Rattle.answers.specs.Delivered.{Answer, answered}
use Rattle.read_line.specs.Readings.{read_of}
use Rattle.rules.specs.Answers as rules
use Rattle.read_row.specs.Readings.{read_row_of}
use Rattle.io_answers.specs.Asked.{asked_in, room_in}
use Rattle.run_program.specs.declared.Input.{Input}
use Rattle.run_program.specs.declared.Input.TheVariants.{Lines, Rows}

-- the answer to a line of annotations, or to a row
unfoldable pub read_as : Input → List ℕ → List ℕ → ℕ → rules.Answer
read_as Lines machine line room = read_of (scanned_by machine line) line room
read_as Rows machine row room = read_row_of machine row room

-- table d is e, of which the first bytes are the output of the answer, and all behind them is as it was
pub record ReadInto (input : Input) (machine asked : List ℕ) (sized : Bool) (d e : List ℕ) (r : Answer) : Type 0 where
  pub read : answered r (take (room_in sized asked (length d)) e)
      ≡ read_as input machine (asked_in sized asked) (room_in sized asked (length d))
  pub kept : drop (room_in sized asked (length d)) e ≡ drop (room_in sized asked (length d)) d
