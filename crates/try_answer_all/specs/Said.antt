-- What is said to a line. Assumes nothing.
use Rattle.std.specs.Prelude.{ℕ, List, [], ◌∷◌, ◌++◌, length}
use Rattle.rules.specs.Numbers.{digits}
use Rattle.io_answers.specs.Tells.{field}

-- two numbers of at most 20 digits, a blank between them and a line feed
abbrev pub longest : ℕ
longest = 42

-- its number, and how many bytes it has
abbrev pub length_text : ℕ → List ℕ → List ℕ
length_text number line = field number ++ (digits (length line) ++ (10 ∷ []))
