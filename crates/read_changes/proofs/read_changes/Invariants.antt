-- `read_changes::read_changes` meets its contract: in its loop those passed, and those left, make the row. Assumes nothing.
use Prim.Native.Nat.{◌-◌}
use lib.ListN.{length}
use Rattle.read_changes.proofs.ChangeLoop.{Passed}
use Rattle.read_changes.proofs.read_changes.Given as goal

abbrev pub invariant-loop-x : goal.invariant-loop-x
invariant-loop-x l = Passed l.bound l.end l.s l.initial.fault l.at l.n l.units l.text l.fault

abbrev pub decreases-loop-x : goal.decreases-loop-x
decreases-loop-x l = length l.s - l.at
