-- `put_bytes::fill_le` meets its contract: the bytes that are left make the whole. Assumes nothing.
use Rattle.put_bytes.proofs.Putting.{put_over}
use Rattle.put_bytes.proofs.PutLoop.{ends, little_none}
use Rattle.rules.proofs.Lengths.{little_length}
use lib.ListN.{length}
use native.Mathlib.Omega.{arith}
use Rattle.put_bytes.proofs.fill_le.Goals as goal

pub returns : goal.returns
returns c = let l = c.loop-byte in let p = c.args.part.now in put_over (ends l.invariant (little_none l.byte-index (length p) _ (omega arith))) (little_length (length p) _)
