-- `print_ion::print_analyte` meets its contract: none, or its number and then `@`. Assumes nothing.
use Rattle.print_ion.proofs.TextParts.{analyte_none, analyte_some}
use Rattle.slices.specs.Numbers.{u16_at}
use mathlib.Core.Path.{ap, ◌∙◌}
use native.Mathlib.Omega.{arith}
use Rattle.put_bytes.proofs.Putting.{put_none, put_then, put_as}
use Rattle.print_ion.proofs.print_analyte.Goals as goal

pub returns-then-byte_of-eq0 : goal.returns-then-byte_of-eq0
returns-then-byte_of-eq0 c = put_as (put_none (omega arith) (omega arith)) (analyte_none _ c.byte_of.ensures c.if-byte_of-eq0.true)

pub returns : goal.returns
returns c = put_as (put_then c.put_number-a.ensures c.put8.ensures) (analyte_some _ c.byte_of.ensures c.if-byte_of-eq0.false (c.u16_at.ensures ∙ ap u16_at c.rest.ensures))
