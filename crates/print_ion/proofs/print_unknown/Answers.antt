-- `print_ion::print_unknown` meets its contract: `?` alone, or its label behind it. Assumes nothing.
use Rattle.print_ion.proofs.TextParts.{label_none, label_some}
use Rattle.slices.specs.Numbers.{u16_at}
use mathlib.Core.Path.{ap, ◌∙◌}
use native.Mathlib.Omega.{arith}
use Rattle.put_bytes.proofs.Putting.{put_then, put_as}
use Rattle.print_ion.proofs.print_unknown.Goals as goal

pub returns-in-0 : goal.returns-in-0
returns-in-0 c = put_as c.put8-a.ensures (label_none _ (c.u16_at.ensures ∙ ap u16_at c.rest.ensures) c.in-0.is)

pub returns-in_default : goal.returns-in_default
returns-in_default c = put_as (put_then c.put8-a.ensures c.put_number.ensures) (label_some _ (c.u16_at.ensures ∙ ap u16_at c.rest.ensures) (λ e. omega (arith, e)))
