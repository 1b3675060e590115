-- `put_bytes::fill` meets its contract: the bytes that are left make the whole. Assumes nothing.
use Rattle.put_bytes.proofs.Putting.{put_in, put_over}
use Rattle.put_bytes.proofs.PutLoop.{more, ends, run_more}
use lib.ListN.{drop_of_length-le}
use native.Mathlib.Omega.{arith}
use Rattle.put_bytes.proofs.fill.Goals as goal

pub loop-i-preserved : goal.loop-i-preserved
loop-i-preserved c = more c.loop-i.invariant (put_in _ (omega arith) (omega arith)) (run_more c.args.s.now c.loop-i.i (omega arith))

pub returns : goal.returns
returns c = let l = c.loop-i in put_over (ends l.invariant (drop_of_length-le c.args.s.now {i = l.i} (omega arith))) (omega arith)
