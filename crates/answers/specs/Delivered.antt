-- What a call answers, with the bytes of the output, and what a line that is to be written is answered by. Assumes nothing.
use Rattle.std.specs.Prelude.{ℕ, cond, List, ltb, length, Result, Ok, Err}
use Rattle.rules.specs.Limits.{max_line}
use Rattle.rules.specs.Answers as rules
use Rattle.rules.specs.Answers.{refuses, gives}
use Rattle.put_bytes.specs.Puts.{cleared}
use Rattle.faults.specs.declared.Why.{Why}
use Rattle.faults.specs.declared.Refusal.{Refusal}
use Rattle.faults.specs.Refusals.{number_of, refusal}

-- what a call answers: how many bytes of the output were written; or why none were, and the place, or the bytes needed
abbrev pub Answer : Type 0
Answer = Result ℕ Refusal

-- its three numbers
abbrev pub number_in : Answer → ℕ
number_in (Ok n) = 0
number_in (Err r) = number_of r.why

abbrev pub place_in : Answer → ℕ
place_in (Ok n) = 0
place_in (Err r) = r.place

abbrev pub size_in : Answer → ℕ
size_in (Ok n) = n
size_in (Err r) = 0

abbrev pub numbers_of : Answer → ℕ × ℕ × ℕ
numbers_of a = (number_in a, place_in a, size_in a)

-- the answer of the paper, with the bytes of the output
abbrev pub answered : Answer → List ℕ → rules.Answer
answered a out = record { number = number_in a; place = place_in a; size = size_in a; out = out }

abbrev pub refused_of : Why → ℕ → Answer
refused_of why place = Err (refusal why place)

-- a line that is a table's: 1, 8, or done
unfoldable pub line_over : List ℕ → ℕ → rules.Answer
line_over line room = cond (ltb max_line (length line)) (refuses room 1 max_line) (cond (ltb room (length line)) (refuses room 8 (length line)) (gives room line))

-- an output in which a line of n bytes was put from 0 on, cut at its end: 1, 8, or the line and zeros behind it
unfoldable pub closed_over : List ℕ → ℕ → rules.Answer
closed_over e n =
    cond (ltb max_line n) (refuses (length e) 1 max_line)
    (cond (ltb (length e) n) (refuses (length e) 8 n) (record { number = 0; place = 0; size = n; out = cleared e n }))
