-- What is said to a line of the input, and where it waits to be written. Assumes nothing.
use Rattle.std.specs.Prelude.{ℕ, ◌+◌, List, [], ◌∷◌, ◌++◌}
use Rattle.io_lines.specs.declared.Stream.{Stream}
use Rattle.run_program.specs.Waits.{Waits}
use Rattle.try_terms.specs.Lines.{answer_to}

-- as many bytes as a buffer has, four numbers of at most 20 digits, each with a blank, a line feed
abbrev pub longest_reply : ℕ
longest_reply = 65536 + 128

-- output d is e, and s is r: what is said to a line waits, and a line feed behind it
abbrev pub Answered : List ℕ → Stream → List ℕ → List ℕ → Stream → Type 0
Answered line = Waits longest_reply (answer_to line ++ (10 ∷ []))
