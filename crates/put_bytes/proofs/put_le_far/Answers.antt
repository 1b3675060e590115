-- `put_bytes::put_le_far` meets its contract: the bytes that are left make the whole. Assumes nothing.
use Rattle.put_bytes.proofs.PutLoop.{more, little_more}
use Rattle.put_bytes.proofs.put_le_far.Goals as goal

pub loop-preserved : goal.loop-preserved
loop-preserved c = more c.loop.invariant c.put8-to.ensures (little_more _ _ _ c.loop-test.true)
