-- `put_bytes::put_between` meets its contract: three puts, one behind the other. Assumes nothing.
use Rattle.put_bytes.proofs.Putting.{put_then}
use Rattle.put_bytes.proofs.put_between.Goals as goal

pub returns : goal.returns
returns c = put_then c.put8-inside.ensures (put_then c.put_run-behind.ensures c.put8.ensures)
