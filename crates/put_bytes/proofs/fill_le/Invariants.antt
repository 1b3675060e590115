-- `put_bytes::fill_le` meets its contract: the bytes that are left make the whole. Assumes nothing.
use Rattle.put_bytes.proofs.PutLoop.{PutSoFar}
use Rattle.rules.specs.Stored.{little}
use lib.ListN.{length}
use Prim.Native.Nat.{◌-◌}
use Rattle.put_bytes.proofs.fill_le.Given as goal

abbrev pub invariant-loop-byte : goal.invariant-loop-byte
invariant-loop-byte l = PutSoFar l.initial.byte-items 0 (little (length l.initial.byte-items) l.v) l.byte-items l.byte-index (little (length l.initial.byte-items - l.byte-index) l.left)
