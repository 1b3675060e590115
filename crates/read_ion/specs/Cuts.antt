-- The letters that bytes begin with, behind the `m` of an internal ion. Document 02, M-113. Assumes nothing.
use Rattle.std.specs.Prelude.{ℕ, ◌+◌, ◌-◌, ◌*◌, cond, List, eqb, ltb, get_or, Option, Some, None}
use Rattle.std.specs.Option.{unwrap_or}
use Rattle.read_ion.specs.declared.CutRead.{CutRead}

-- where a byte stands among the three from another on, counted from 1
unfoldable pub place_in : ℕ → ℕ → Option ℕ
place_in b first = cond (ltb b first) None (cond (ltb (b - first) 3) (Some (b - first + 1)) None)

-- yb, the fifth, is 0
unfoldable pub held_of : ℕ → ℕ
held_of n = cond (eqb n 5) 0 n

abbrev pub cut_with : Option ℕ → ℕ → CutRead
cut_with None b = record { held = 0; len = 0 }
cut_with (Some a) b = record { held = held_of (3 * (a - 1) + b); len = 2 }

unfoldable pub cut_of : List ℕ → CutRead
cut_of s = cut_with (place_in (get_or s 0 0) 120) (unwrap_or (place_in (get_or s 1 0) 97) 0)
