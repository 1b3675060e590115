-- `put_bytes::put_le_far` meets its contract: the bytes that are left make the whole. Assumes nothing.
use Rattle.put_bytes.proofs.PutLoop.{PutSoFar}
use Rattle.rules.specs.Stored.{little}
use Prim.Native.Nat.{◌-◌}
use Rattle.put_bytes.proofs.put_le_far.Given as goal

abbrev pub invariant-loop : goal.invariant-loop
invariant-loop l = PutSoFar l.initial.out l.at (little l.n l.v) l.out l.to (little (l.n - l.counter) l.rest)
