-- Numbers by their decimal digits. Assumes nothing.
use Rattle.std.specs.Prelude.{ℕ, ◌+◌, ◌-◌, ◌*◌, List, [], ◌∷◌}

-- the number whose digits are those of a and then these bytes
unfoldable pub value_from : ℕ → List ℕ → ℕ
value_from a [] = a
value_from a (b ∷ w) = value_from (a * 10 + (b - 48)) w
