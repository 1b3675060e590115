-- `rows::write_row_in` meets its contract. Assumes nothing.
use mathlib.Core.Path.{sym, ap, ◌∙◌, subst}
use mathlib.Core.List.{List}
use Prim.Native.Nat.{ℕ}
use native.Mathlib.Omega.{arith}
use lib.ListN.{length}
use Rattle.rules.specs.RowAnswers.{WritesRow}
use Rattle.scan_line.specs.Lines.{lines_in}
use Rattle.scan_line.specs.Steps.{machine_bytes}
use Rattle.write_table.proofs.Right.{lent}
use Rattle.write_row.specs.Writings.{write_row_of}
use Rattle.write_row.proofs.Right.{write_row_right}
use Rattle.rows.proofs.write_row_in.Goals as goal

pub returns : goal.returns
returns c =
    let stored = c.args.stored.now in
    let room = length c.args.out.now in
    let l = lines_in c.args.lines in
    subst (WritesRow l stored room) (sym (c.write_row_by.ensures ∙ ap (λ (m : List ℕ). write_row_of m stored room) c.machine-made.ensures))
    (write_row_right l (machine_bytes l) stored room (omega arith) (λ i h. (c.shared_slice_known-1.given i).fits) (lent l))
