-- `print_parts::print_confidence` meets its contract. Assumes nothing.
use native.Mathlib.Omega.{arith}
use Rattle.put_bytes.proofs.Putting.{put_none, put_then, put_as}
use Rattle.print_parts.proofs.Tests.{confidence_none, confidence_some}
use Rattle.print_parts.proofs.print_confidence.Goals as goal

pub returns-then-byte_of-eq0 : goal.returns-then-byte_of-eq0
returns-then-byte_of-eq0 c = put_as (put_none (omega arith) (omega arith)) (confidence_none c.args.s.now c.byte_of.ensures c.if-byte_of-eq0.true)

pub returns : goal.returns
returns c = put_as (put_then c.put8-a.ensures c.put_pointed.ensures) (confidence_some c.args.s.now c.byte_of.ensures c.if-byte_of-eq0.false c.rest.ensures c.u32_at.ensures c.byte_of-2.ensures)
