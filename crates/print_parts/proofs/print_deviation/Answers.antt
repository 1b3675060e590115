-- `print_parts::print_deviation` meets its contract. Assumes nothing.
use native.Mathlib.Omega.{arith}
use Rattle.put_bytes.proofs.Putting.{put_none, put_then, put_as}
use Rattle.print_parts.proofs.Tests.{deviation_none, deviation_plain, deviation_ppm}
use Rattle.print_parts.proofs.print_deviation.Goals as goal

pub returns-then-kind-eq0 : goal.returns-then-kind-eq0
returns-then-kind-eq0 c = put_as (put_none (omega arith) (omega arith)) (deviation_none c.args.s.now c.byte_of-kind.ensures c.if-kind-eq0.true)

pub returns-then-kind-eq1 : goal.returns-then-kind-eq1
returns-then-kind-eq1 c = put_as (put_then c.put8-a.ensures c.print_signed-b.ensures) (deviation_plain c.args.s.now c.byte_of-kind.ensures c.if-kind-eq0.false c.if-kind-eq1.true c.rest.ensures c.u64_at.ensures c.byte_of.ensures)

pub returns-else-kind-eq1 : goal.returns-else-kind-eq1
returns-else-kind-eq1 c = put_as (put_then c.put8-a.ensures (put_then c.print_signed-b.ensures c.put_run.ensures)) (deviation_ppm c.args.s.now c.byte_of-kind.ensures c.if-kind-eq0.false c.if-kind-eq1.false c.rest.ensures c.u64_at.ensures c.byte_of.ensures)
