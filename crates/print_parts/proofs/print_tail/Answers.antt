-- `print_parts::print_tail` meets its contract. Assumes nothing.
use Rattle.put_bytes.proofs.Putting.{put_then}
use Rattle.print_parts.proofs.print_tail.Goals as goal

pub returns : goal.returns
returns c = put_then c.print_charge-a.ensures (put_then c.print_deviation-b.ensures c.print_confidence.ensures)
