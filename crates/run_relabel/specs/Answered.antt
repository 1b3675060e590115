-- What is printed for a line, or a row, of the input, and where it waits to be written. Assumes nothing.
use Rattle.std.specs.Prelude.{ℕ, ◌+◌, ◌≡◌, cond, List, [], ◌∷◌, ◌++◌, eqb, length, take}
use Rattle.rules.specs.RowAnswers.{max_row}
use Rattle.rules.specs.Answers.{Answer}
use Rattle.rules.specs.Editions.{LineEdition}
use Rattle.io_lines.specs.declared.Stream.{Stream}
use Rattle.io_lines.specs.Streams.{waiting_of, room_of, Roomed}
use Rattle.io_answers.specs.Tells.{refused_text}
use Rattle.run_program.specs.declared.Input.{Input}
use Rattle.run_relabel.specs.Spelled.{Answers}

-- the result, or the refusal
abbrev pub answer_text : Answer → List ℕ
answer_text a = cond (eqb a.number 0) (take a.size a.out) (refused_text a.number a.place)

-- and a line feed
abbrev pub answer_line : Answer → List ℕ
answer_line a = answer_text a ++ (10 ∷ [])

-- where the next answer goes, in an output of which some bytes wait
abbrev pub place_in : List ℕ → Stream → ℕ
place_in d s = room_of (length d) s.waiting (max_row + 1)

-- output d is e, and s is r: the answer to a line, in an edition of lines, waits behind what waited, or alone where that was written; where it could not be
-- written the stream is stopped
pub record Answered (l : LineEdition) (input : Input) (line : List ℕ) (s : Stream) (d e : List ℕ) (r : Stream) : Type 0 where
  pub answer : Answer
  pub answers : Answers l input line answer
  pub room : Stream
  pub roomed : Roomed (length d) (max_row + 1) s room
  pub waits : r ≡ waiting_of room (place_in d s + length (answer_line answer))
  pub stands : take r.waiting e ≡ take (place_in d s) d ++ answer_line answer
