-- A number of a record, as far as a table may have it. Assumes nothing.
use Rattle.std.specs.Prelude.{ℕ, min, List, drop}
use Rattle.slices.specs.Numbers.{u16_at}

abbrev pub up_to : ℕ → ℕ → ℕ
up_to n most = min n most

-- the two bytes at a place
abbrev pub number_at : List ℕ → ℕ → ℕ → ℕ
number_at s i most = up_to (u16_at (drop i s)) most
