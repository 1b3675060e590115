-- Signs as they are stored. Assumes nothing.
use Rattle.std.specs.Prelude.{ℕ, cond, eqb}
use Rattle.changes.specs.declared.Sign.{Sign}
use Rattle.changes.specs.declared.Sign.TheVariants.{Minus, Plus}

abbrev pub sign_number : Sign → ℕ
sign_number Minus = 0
sign_number Plus = 1

-- what a byte of a record says: 0 is `-`, anything else `+`
abbrev pub sign_of_byte : ℕ → Sign
sign_of_byte b = cond (eqb b 0) Minus Plus
