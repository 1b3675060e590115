-- `print_count::put_head` meets its contract. Assumes nothing.
use Rattle.put_bytes.proofs.Putting.{put_then}
use Rattle.print_count.proofs.put_head.Goals as goal

pub returns : goal.returns
returns c = put_then c.put_sign-at.ensures c.put_count.ensures
