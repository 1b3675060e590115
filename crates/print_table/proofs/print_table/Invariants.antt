-- `print_table::print_table` meets its contract: in its loop the annotations left to print make the whole, by the edition that was read
-- before it. Assumes nothing.
use Rattle.print_table.specs.Tables.{annotations_printed}
use Rattle.print_table.specs.Parts.{stored_parts_at}
use Rattle.layout.specs.Editions.{edition_of}
use Rattle.put_bytes.proofs.PutLoop.{PutSoFar}
use Prim.Native.Nat.{◌-◌}
use Rattle.print_table.proofs.print_table.Given as goal

abbrev pub invariant-loop-i : goal.invariant-loop-i
invariant-loop-i l = PutSoFar l.initial.out l.to (annotations_printed (edition_of l.edition) 0 l.n (stored_parts_at l.table l.initial.c)) l.out l.at (annotations_printed (edition_of l.edition) l.i (l.n - l.i) (stored_parts_at l.table l.c))
