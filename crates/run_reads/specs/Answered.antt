-- What is printed for a line of the input, and where it waits to be written. Assumes nothing.
use Rattle.std.specs.Prelude.{ℕ, Bool, List}
use Rattle.answers.specs.Delivered.{Answer}
use Rattle.rows.specs.Relabels.{max_stored_row}
use Rattle.io_lines.specs.declared.Stream.{Stream}
use Rattle.run_program.specs.Waits.{Waits}
use Rattle.io_answers.specs.Tells.{longest_answer, told}
use Rattle.run_program.specs.declared.Input.{Input}
use Rattle.run_reads.specs.Reads.{ReadInto}

-- table t is u, output d is e, and s is r: what is told of the reading of a line waits
pub record Answered (input : Input) (machine asked : List ℕ) (sized : Bool) (s : Stream) (t u d e : List ℕ) (r : Stream) : Type 0 where
  pub answer : Answer
  pub reads : ReadInto input machine asked sized t u answer
  pub waits : Waits (longest_answer max_stored_row) (told answer u) s d e r
