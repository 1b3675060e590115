-- Decimals in billionths, as large as a u64 tells. Assumes nothing.
use Rattle.std.specs.Prelude.{ℕ, min}
use Rattle.rules.specs.House.{billionths}
use Rattle.numbers.specs.declared.Decimal.{Decimal}
use Rattle.numbers.specs.Making.{ruled}

-- 2 ^ 64 - 1
abbrev pub largest : ℕ
largest = 18446744073709551615

unfoldable pub billionths_of : Decimal → ℕ
billionths_of d = min (billionths (ruled d)) largest
