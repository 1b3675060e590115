-- Decimals within their bounds. Assumes nothing.
use Rattle.std.specs.Prelude.{ℕ, cond, Option, Some, None, unwrap_or}
use Rattle.rules.specs.Decimals as rules
use Rattle.rules.specs.Limits.{fits}
use Rattle.numbers.specs.declared.Decimal.{Decimal}

-- the decimal of the rules
abbrev pub ruled : Decimal → rules.Decimal
ruled d = record { value = d.value; places = d.places }

-- a decimal; none past its bounds
unfoldable pub made_of : ℕ → ℕ → Option Decimal
made_of v p = cond (fits (record { value = v; places = p })) (Some (record { value = v; places = p })) None

-- 0, without places
abbrev pub zero_decimal : Decimal
zero_decimal = record { value = 0; places = 0 }

-- the decimal of each answer; past its bounds it is told as 0
abbrev pub made_decimal : Option Decimal → Decimal
made_decimal m = unwrap_or m zero_decimal
