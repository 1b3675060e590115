-- What bytes begin with. Assumes nothing.
use Rattle.std.specs.Prelude.{ℕ, suc, cond, List, [], ◌∷◌}
use Rattle.lang.specs.Re.{Rng, in_c}
use Rattle.rules.specs.Bytes.{◌to◌}

-- 0x20 to 0x7E, of which texts and names are made
abbrev pub printable : List Rng
printable = " " to "~" ∷ []

-- how many bytes of a class
unfoldable pub leading_in : List Rng → List ℕ → ℕ
leading_in c [] = 0
leading_in c (b ∷ w) = cond (in_c c b) (suc (leading_in c w)) 0
