-- `put_formula::print_units` meets its contract: in its loop the records left to print make the whole. Assumes nothing.
use Rattle.put_formula.specs.Preferred.{printed_units}
use Rattle.put_bytes.proofs.PutLoop.{PutSoFar}
use Prim.Native.Nat.{◌-◌}
use Rattle.put_formula.proofs.print_units.Given as goal

abbrev pub invariant-loop : goal.invariant-loop
invariant-loop l = PutSoFar l.initial.out l.at (printed_units l.n l.t) l.out l.to (printed_units (l.n - l.counter) l.left)
