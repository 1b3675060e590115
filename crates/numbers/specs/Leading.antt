-- What the digits in front of a list say. Assumes nothing.
use Rattle.std.specs.Prelude.{ℕ, min, cond, List, [], ◌∷◌, length}
use Rattle.lang.specs.Re.{in_c}
use Rattle.lang.specs.Digits.{value_from}
use Rattle.rules.specs.Bytes.{digit}
use Rattle.numbers.specs.declared.Number.{Number}
use Rattle.numbers.specs.declared.Digits.{Digits}

-- the digits that a list begins with
unfoldable pub leading : List ℕ → List ℕ
leading [] = []
leading (b ∷ s) = cond (in_c digit b) (b ∷ leading s) []

-- their value behind the digits of a number, no more than `most`, and how many they are
unfoldable pub leading_of : ℕ → ℕ → List ℕ → Digits
leading_of before most s = record { value = min (value_from before (leading s)) most; len = length (leading s) }

-- no bound of a number is a million or more, so that a test of the value tells what it tells of the number
unfoldable pub number_of : List ℕ → Number
number_of s = record { value = min (value_from 0 (leading s)) 1000000; len = length (leading s) }
