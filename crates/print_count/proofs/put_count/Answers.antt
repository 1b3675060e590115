-- `print_count::put_count` meets its contract. Assumes nothing.
use native.Mathlib.Omega.{arith}
use Rattle.put_bytes.proofs.Putting.{put_none, put_as}
use Rattle.print_count.proofs.Steps.{count_one, count_more}
use Rattle.print_count.proofs.put_count.Goals as goal

pub returns-then-n-le1 : goal.returns-then-n-le1
returns-then-n-le1 c = put_as (put_none (omega arith) (omega arith)) (count_one _ (omega (arith, c.if-n-le1.true)))

pub returns-else-n-le1 : goal.returns-else-n-le1
returns-else-n-le1 c = put_as c.put_number.ensures (count_more _ (omega (arith, c.if-n-le1.false)))
