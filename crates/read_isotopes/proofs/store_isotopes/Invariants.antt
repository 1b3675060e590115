-- `read_isotopes::store_isotopes` meets its contract: in its loop the records put, and isotopes left, make the whole. Assumes nothing.
use Rattle.read_isotopes.proofs.IsotopeLoops.{Filing}
use lib.ListN.{length}
use Prim.Native.Nat.{◌-◌}
use Rattle.read_isotopes.proofs.store_isotopes.Given as goal

abbrev pub invariant-loop-x : goal.invariant-loop-x
invariant-loop-x l = Filing l.s l.initial.out l.to l.at l.n l.out l.next

abbrev pub decreases-loop-x : goal.decreases-loop-x
decreases-loop-x l = length l.s - l.at
