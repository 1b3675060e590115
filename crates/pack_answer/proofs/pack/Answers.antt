-- `pack_answer::pack` meets its contract: the three are put one after the other. Assumes nothing.
use Rattle.put_bytes.proofs.Putting.{put_then}
use Rattle.pack_answer.proofs.pack.Goals as goal

pub returns : goal.returns
returns c = put_then (put_then c.put_le-second.ensures c.put_le-third.ensures) c.put_le.ensures
