-- `read_isotopes::spell_isotopes` meets its contract. Assumes nothing.
use Rattle.read_isotopes.proofs.IsotopeLoops.{Spelling}
use lib.ListN.{length}
use Prim.Native.Nat.{◌-◌}
use Rattle.read_isotopes.proofs.spell_isotopes.Given as goal

abbrev pub invariant-loop-x : goal.invariant-loop-x
invariant-loop-x l = Spelling l.s l.initial.out l.to l.len l.out l.end

abbrev pub decreases-loop-x : goal.decreases-loop-x
decreases-loop-x l = length l.s - l.len
