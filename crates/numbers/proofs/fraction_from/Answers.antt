-- `numbers::fraction_from` meets its contract: nothing left, no point first, or the digits behind the point. Assumes nothing.
use mathlib.Core.Path.{◌∙◌}
use native.Mathlib.Omega.{arith}
use Rattle.numbers.proofs.Points.{fraction_none, fraction_empty, fraction_other, fraction_point}
use Rattle.numbers.proofs.fraction_from.Goals as goal

pub returns-in_default : goal.returns-in_default
returns-in_default c = fraction_none _ _ c.requires (fraction_empty _ c.in_default.len_below)

pub returns-in_default-2 : goal.returns-in_default-2
returns-in_default-2 c = fraction_none _ _ c.requires (fraction_other _ c.in_default.len_at_least (λ q. omega arith))

pub returns-in-46 : goal.returns-in-46
returns-in-46 c = c.digits_from.ensures ∙ fraction_point _ _ c.in-46.len_at_least (omega arith)
