-- `sort_changes::gather_all` meets its contract: in its loop what was gathered, and what is left, make the whole. Assumes nothing.
use Rattle.sort_changes.proofs.Gathers.{Gathering}
use lib.ListN.{length}
use Prim.Native.Nat.{◌-◌}
use Rattle.sort_changes.proofs.gather_all.Given as goal

abbrev pub invariant-loop-keys : goal.invariant-loop-keys
invariant-loop-keys l = Gathering l.s l.initial.keys l.keys l.g

abbrev pub decreases-loop-keys : goal.decreases-loop-keys
decreases-loop-keys l = length l.s - l.g.at
