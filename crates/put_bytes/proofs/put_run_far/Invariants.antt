-- `put_bytes::put_run_far` meets its contract: the bytes that are left make the whole. Assumes nothing.
use Rattle.put_bytes.proofs.PutLoop.{PutSoFar}
use lib.ListN.{drop}
use Rattle.put_bytes.proofs.put_run_far.Given as goal

abbrev pub invariant-loop-b : goal.invariant-loop-b
invariant-loop-b l = PutSoFar l.initial.out l.at l.s l.out l.to (drop l.b-index l.s)
