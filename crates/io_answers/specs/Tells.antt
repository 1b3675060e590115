-- What a reading answers, as text. Assumes nothing.
use Rattle.std.specs.Prelude.{ℕ, ◌+◌, ◌*◌, ◌/◌, ◌%◌, cond, List, [], ◌∷◌, ◌++◌, eqb, ltb, take}
use Rattle.lang.specs.Parts.{flat}
use Rattle.rules.specs.Numbers.{digits}
use Rattle.rules.specs.Answers as rules
use Rattle.faults.specs.declared.Refusal.{Refusal}
use Rattle.faults.specs.Refusals.{number_of}
use Rattle.answers.specs.Delivered.{Answer, answered}

-- 0 to 9, then a to f
unfoldable pub hex_digit : ℕ → ℕ
hex_digit d = cond (ltb d 10) (48 + d) (87 + d)

abbrev pub hex_byte : ℕ → List ℕ
hex_byte b = hex_digit (b / 16 % 16) ∷ hex_digit (b % 16) ∷ []

-- the bytes of a table, or that there are none
unfoldable pub shown : List ℕ → List ℕ
shown [] = 45 ∷ []
shown (b ∷ s) = flat hex_byte (b ∷ s)

-- a number and a space
abbrev pub field : ℕ → List ℕ
field n = digits n ++ (32 ∷ [])

-- the most bytes of an answer to which n bytes belong: three numbers of at most 20 digits, each with a blank, two digits for each byte, a line feed
abbrev pub longest_answer : ℕ → ℕ
longest_answer n = 64 + 2 * n

-- an answer, and the table that it speaks of
abbrev pub told_answer : rules.Answer → List ℕ
told_answer a = field a.number ++ (field a.place ++ (field a.size ++ (shown (take a.size a.out) ++ (10 ∷ []))))

abbrev pub told : Answer → List ℕ → List ℕ
told a table = told_answer (answered a table)

-- `!`, the number, a space and the place
abbrev pub refused_text : ℕ → ℕ → List ℕ
refused_text number place = (33 ∷ []) ++ (field number ++ digits place)

abbrev pub refusal_text : Refusal → List ℕ
refusal_text r = refused_text (number_of r.why) r.place

-- the table in digits, or the refusal
abbrev pub told_answer_briefly : rules.Answer → List ℕ
told_answer_briefly a = cond (eqb a.number 0) (flat hex_byte (take a.size a.out)) (refused_text a.number a.place) ++ (10 ∷ [])

abbrev pub told_briefly : Answer → List ℕ → List ℕ
told_briefly a table = told_answer_briefly (answered a table)
