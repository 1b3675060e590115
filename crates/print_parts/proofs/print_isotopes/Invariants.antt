-- `print_parts::print_isotopes` meets its contract. Assumes nothing.
use Prim.Native.Nat.{◌-◌}
use Rattle.print_parts.specs.Isotopes.{isotopes_printed}
use Rattle.put_bytes.proofs.PutLoop.{PutSoFar}
use Rattle.print_parts.proofs.print_isotopes.Given as goal

abbrev pub invariant-loop : goal.invariant-loop
invariant-loop l = PutSoFar l.initial.out l.to (isotopes_printed l.n l.s) l.out l.at (isotopes_printed (l.n - l.counter) l.left)
