-- `read_formula::formula` meets its contract: in its loop the units passed, and those left, make the whole. Assumes nothing.
use Prim.Native.Nat.{◌-◌}
use lib.ListN.{length}
use Rattle.read_formula.proofs.UnitLoop.{Passed}
use Rattle.read_formula.proofs.formula.Given as goal

abbrev pub invariant-loop-u : goal.invariant-loop-u
invariant-loop-u l = Passed l.end l.s l.initial.fault l.at l.units l.fault

abbrev pub decreases-loop-u : goal.decreases-loop-u
decreases-loop-u l = length l.s - l.at
