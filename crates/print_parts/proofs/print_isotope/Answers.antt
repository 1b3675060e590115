-- `print_parts::print_isotope` meets its contract. Assumes nothing.
use Rattle.print_parts.proofs.Tests.{isotope_made}
use Rattle.put_bytes.proofs.Putting.{put_then, put_as}
use Rattle.print_parts.proofs.print_isotope.Goals as goal

pub returns : goal.returns
returns c = put_as (put_then c.put_head-a.ensures (put_then c.put8-b.ensures c.print_which.ensures)) (isotope_made c.args.s.now c.byte_of.ensures c.from.ensures c.rest.ensures c.u16_at.ensures)
