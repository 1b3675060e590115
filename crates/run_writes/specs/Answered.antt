-- What is answered to a table, or a stored row, of the input, in hexadecimal digits, and what is printed of it. Assumes nothing.
use Rattle.std.specs.Prelude.{ℕ, ◌≡◌, Bool, cond, List, take, drop}
use Rattle.rules.specs.Answers as rules
use Rattle.rules.specs.Answers.{refuses}
use Rattle.rules.specs.Largest.{max_any_table}
use Rattle.rules.specs.RowAnswers.{max_row}
use Rattle.io_hex.specs.Hexes.{spelled, unhexed}
use Rattle.answers.specs.Delivered.{Answer, answered}
use Rattle.write_table.specs.Writings.{written_of, converted_of}
use Rattle.write_row.specs.Writings.{write_row_of}
use Rattle.io_lines.specs.declared.Stream.{Stream}
use Rattle.run_program.specs.Waits.{Waits}
use Rattle.io_answers.specs.Asked.{asked_in, room_in}
use Rattle.io_answers.specs.Tells.{longest_answer, told_answer, told_answer_briefly}
use Rattle.run_writes.specs.declared.Task.{Task}
use Rattle.run_writes.specs.declared.Task.TheVariants.{WriteTable, WriteRow, ConvertTable}
use Rattle.run_writes.specs.declared.Form.{Form}
use Rattle.run_writes.specs.declared.Form.TheVariants.{Fields, Digits}

-- how many bytes are answered at most
abbrev pub most_of : Task → ℕ
most_of WriteTable = max_row
most_of WriteRow = max_row
most_of ConvertTable = max_any_table

-- the answer to a stored table, to a stored row, or to a table that is to be converted
unfoldable pub answer_as : Task → List ℕ → List ℕ → ℕ → rules.Answer
answer_as WriteTable machine table room = written_of machine table room
answer_as WriteRow machine stored room = write_row_of machine stored room
answer_as ConvertTable machine table room = converted_of machine table room

-- the bytes that digits spell, as many as there is room for, are answered into room bytes; what is no digits is no table and no row
unfoldable pub hex_of : Task → List ℕ → List ℕ → ℕ → ℕ → rules.Answer
hex_of task machine digits tableRoom room = cond (spelled digits) (answer_as task machine (take tableRoom (unhexed digits)) room) (refuses room 9 0)

-- what is asked, with so much room for the table and for the line
abbrev pub answer_to : Task → List ℕ → Bool → List ℕ → ℕ → ℕ → rules.Answer
answer_to task machine sized asked tableRoom all = hex_of task machine (asked_in sized asked) tableRoom (room_in sized asked all)

-- line d is e: its first bytes are the output of an answer, and those behind are as they were
pub record Written (room : ℕ) (a : rules.Answer) (d e : List ℕ) (r : Answer) : Type 0 where
  pub is : answered r (take room e) ≡ a
  pub rest : drop room e ≡ drop room d

-- what is printed of an answer and the line that it speaks of
abbrev pub told_of : Form → rules.Answer → List ℕ
told_of Fields a = told_answer a
told_of Digits a = told_answer_briefly a

abbrev pub told_as : Form → Answer → List ℕ → List ℕ
told_as form a line = told_of form (answered a line)

-- output d is e, and s is r: what is printed of an answer waits
abbrev pub Answered : Form → rules.Answer → Stream → List ℕ → List ℕ → Stream → Type 0
Answered form a = Waits (longest_answer max_any_table) (told_of form a)
