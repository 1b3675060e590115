-- `print_parts::print_charge` meets its contract. Assumes nothing.
use native.Mathlib.Omega.{arith}
use Rattle.put_bytes.proofs.Putting.{put_none, put_then, put_as}
use Rattle.print_parts.proofs.Tests.{charge_one, charge_more}
use Rattle.print_parts.proofs.print_charge.Goals as goal

pub returns-then-charge-le1 : goal.returns-then-charge-le1
returns-then-charge-le1 c = put_as (put_none (omega arith) (omega arith)) (charge_one c.args.s.now c.byte_of-charge.ensures (omega (arith, c.if-charge-le1.true)))

pub returns : goal.returns
returns c =
    put_as (put_then c.put8-a.ensures c.put_number.ensures)
    (charge_more c.args.s.now c.byte_of-charge.ensures (omega (arith, c.if-charge-le1.false)))
