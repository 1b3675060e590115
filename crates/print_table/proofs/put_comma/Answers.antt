-- `print_table::put_comma` meets its contract: nothing before the first annotation, a comma before others. Assumes nothing.
use Rattle.print_table.proofs.Steps.{comma_first, comma_next}
use native.Mathlib.Omega.{arith}
use Rattle.put_bytes.proofs.Putting.{put_none, put_as}
use Rattle.print_table.proofs.put_comma.Goals as goal

pub returns-then-i-eq0 : goal.returns-then-i-eq0
returns-then-i-eq0 c = put_as (put_none (omega arith) (omega arith)) (comma_first _ c.if-i-eq0.true)

pub returns-else-i-eq0 : goal.returns-else-i-eq0
returns-else-i-eq0 c = put_as c.put8.ensures (comma_next _ c.if-i-eq0.false)
