-- `read_isotopes::isotopes` meets its contract: in its loop those passed, and those left, make the row. Assumes nothing.
use Rattle.read_isotopes.proofs.IsotopeLoops.{Passed}
use Rattle.read_isotopes.specs.Rows.{count_isotope}
use Rattle.read_formula.specs.Formulas.{counted}
use lib.ListN.{length}
use Prim.Native.Nat.{◌-◌}
use Rattle.read_isotopes.proofs.isotopes.Given as goal

abbrev pub invariant-loop-x : goal.invariant-loop-x
invariant-loop-x l = Passed (count_isotope l.end) l.s (counted 0 l.initial.fault) l.at l.n (counted l.n l.fault)

abbrev pub decreases-loop-x : goal.decreases-loop-x
decreases-loop-x l = length l.s - l.at
