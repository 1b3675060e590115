-- `io_hex::put_unhexed` meets its contract: the pairs that are left make the whole. Assumes nothing.
use Rattle.io_hex.specs.Hexes.{unhexed}
use Rattle.put_bytes.proofs.PutLoop.{PutSoFar}
use mathlib.Core.Path.{◌≡◌}
use Rattle.io_hex.proofs.put_unhexed.Given as goal

abbrev pub invariant-loop-pair : goal.invariant-loop-pair
invariant-loop-pair l = (l.pair-iterator.size ≡ 2) × PutSoFar l.initial.out l.at (unhexed l.s) l.out l.to (unhexed l.pair-iterator.rest.now)
