-- `put_bytes::put_run_far` meets its contract: the bytes that are left make the whole. Assumes nothing.
use Rattle.put_bytes.proofs.PutLoop.{more, ends, run_more}
use lib.ListN.{drop_of_length-le}
use Rattle.put_bytes.proofs.put_run_far.Goals as goal

pub loop-b-preserved : goal.loop-b-preserved
loop-b-preserved c = more c.loop-b.invariant c.put8-to.ensures (run_more _ _ c.loop-b-test.true)

pub returns : goal.returns
returns c = ends c.loop-b.invariant (drop_of_length-le _ c.loop-b-test.false)
