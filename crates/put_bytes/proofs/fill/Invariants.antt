-- `put_bytes::fill` meets its contract: the bytes that are left make the whole. Assumes nothing.
use Rattle.put_bytes.proofs.PutLoop.{PutSoFar}
use lib.ListN.{drop}
use Rattle.put_bytes.proofs.fill.Given as goal

abbrev pub invariant-loop-i : goal.invariant-loop-i
invariant-loop-i l = PutSoFar l.initial.part 0 l.s l.part l.i (drop l.i l.s)
