-- `print_parts::print_changes` meets its contract. Assumes nothing.
use Rattle.print_parts.proofs.PrintLoop.{Printing}
use Rattle.print_parts.proofs.print_changes.Given as goal

abbrev pub invariant-loop : goal.invariant-loop
invariant-loop l = Printing l.n l.l l.u l.t l.initial.out l.to l.out l.at l.rows l.units l.text l.counter
