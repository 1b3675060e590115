-- `print_parts::print_change` meets its contract. Assumes nothing.
use Rattle.print_parts.proofs.Tests.{change_made}
use Rattle.put_bytes.proofs.Putting.{put_then, put_as}
use Rattle.print_parts.proofs.print_change.Goals as goal

pub returns : goal.returns
returns c = put_as (put_then c.put_head-a.ensures c.print_content.ensures) (change_made c.args.l.now c.byte_of.ensures c.from.ensures c.rest.ensures c.u16_at.ensures c.args.u.now c.args.t.now)
