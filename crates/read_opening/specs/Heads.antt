-- The sign and the count that bytes begin with. Assumes nothing.
use Rattle.std.specs.Prelude.{ℕ, ◌+◌, Bool, cond, not, ◌&&◌, ◌||◌, List, drop}
use Rattle.rules.specs.Bytes.{bytes}
use Rattle.rules.specs.Texts.{starts_with}
use Rattle.numbers.specs.Leading.{number_of}
use Rattle.changes.specs.declared.Sign.{Sign}
use Rattle.changes.specs.declared.Sign.TheVariants.{Minus, Plus}
use Rattle.read_formula.specs.Units.{or_one}
use Rattle.read_opening.specs.declared.Head.{Head}

abbrev pub begins_sign : List ℕ → Bool
begins_sign s = starts_with (bytes "+") s || starts_with (bytes "-") s

-- `-` where no `+` stands
abbrev pub sign_of : List ℕ → Sign
sign_of s = cond (starts_with (bytes "+") s) Plus Minus

unfoldable pub head_of : List ℕ → Head
head_of s = let n = number_of (drop 1 s) in record { sign = sign_of s; count = or_one n; len = 1 + n.len }

-- what stands behind sign and count
abbrev pub behind : List ℕ → List ℕ
behind s = drop (head_of s).len s

unfoldable pub begins_isotope : List ℕ → Bool
begins_isotope s = begins_sign s && starts_with (bytes "i") (behind s)

-- a loss or an adduct item
unfoldable pub begins_change : List ℕ → Bool
begins_change s = begins_sign s && not (starts_with (bytes "i") (behind s))
