-- What a line of the input asks for, and how many bytes its output has. Assumes nothing.
use Rattle.std.specs.Prelude.{ℕ, min, Bool, cond, List, drop}
use Rattle.numbers.specs.Leading.{number_of}

-- where lines are sized, each begins with a number and a blank: what stands behind these
abbrev pub behind_size : List ℕ → List ℕ
behind_size s = drop 1 (drop (number_of s).len s)

-- what is asked for: where lines are sized, what stands behind the number, else all
abbrev pub asked_in : Bool → List ℕ → List ℕ
asked_in sized s = cond sized (behind_size s) s

-- how many of `all` bytes the output has: where lines are sized, that number, or all where they are fewer
abbrev pub room_in : Bool → List ℕ → ℕ → ℕ
room_in sized s all = cond sized (min (number_of s).value all) all
