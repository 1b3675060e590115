-- What the digits in front of a list, and those behind a point, say. Assumes nothing.
use Rattle.std.specs.Prelude.{ℕ, suc, ◌+◌, ◌^◌, min, Bool, true, cond, List, [], ◌∷◌, length, drop, Some}
use Rattle.lang.specs.Re.{Rng, in_c}
use Rattle.lang.specs.Digits.{value_from}
use Rattle.lang.specs.Parts.{first_in}
use Rattle.rules.specs.Bytes.{◌to◌, digit}
use Rattle.rules.specs.Limits.{max_digits}
use Rattle.numbers.specs.declared.Digits.{Digits}
use Rattle.numbers.specs.declared.DecimalRead.{DecimalRead}
use Rattle.numbers.specs.declared.FirstByte.{FirstByte}
use Rattle.numbers.specs.declared.FirstByte.TheVariants.{Digit, DigitOrPoint}
use Rattle.numbers.specs.Leading.{leading}
use Rattle.numbers.specs.Making.{zero_decimal, made_of}

abbrev pub point : List Rng
point = "." to "." ∷ []

-- the digits behind the point that a list begins with; none where it begins with no point
unfoldable pub fraction : List ℕ → List ℕ
fraction [] = []
fraction (b ∷ s) = cond (in_c point b) (leading s) []

-- their value behind the digits of a number, no more than 10 ^ max_digits, and how many they are
unfoldable pub fraction_of : ℕ → List ℕ → Digits
fraction_of before s = record { value = min (value_from before (fraction s)) (10 ^ max_digits); len = length (fraction s) }

-- how many bytes a point and these digits have; none where there are no digits
unfoldable pub pointed : List ℕ → ℕ
pointed [] = 0
pointed (b ∷ w) = suc (length (b ∷ w))

-- these digits, and those behind the point
abbrev pub decimal_with : List ℕ → List ℕ → DecimalRead
decimal_with w f = record { made = made_of (value_from (value_from 0 w) f) (length f); len = length w + pointed f }

unfoldable pub decimal_from : List ℕ → DecimalRead
decimal_from s = decimal_with (leading s) (fraction (drop (length (leading s)) s))

-- ---- what a decimal may begin with

-- a digit, where one is needed; else a point will do
abbrev pub may_begin : FirstByte → List ℕ → Bool
may_begin Digit s = first_in digit s
may_begin DigitOrPoint s = true

-- nothing: 0, in no bytes
abbrev pub nothing_read : DecimalRead
nothing_read = record { made = Some zero_decimal; len = 0 }

-- the decimal that bytes begin with, as its user takes it
unfoldable pub decimal_of : FirstByte → List ℕ → DecimalRead
decimal_of first s = cond (may_begin first s) (decimal_from s) nothing_read
