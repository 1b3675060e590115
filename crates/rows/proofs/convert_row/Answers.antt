-- `rows::convert_row` meets its contract. Assumes nothing.
use mathlib.Core.Path.{sym, ap, ◌∙◌, subst}
use mathlib.Core.List.{List}
use Prim.Native.Nat.{ℕ}
use native.Mathlib.Omega.{arith}
use lib.ListN.{length}
use Rattle.rules.specs.Editions.{first_lines}
use Rattle.rules.specs.RowAnswers.{ConvertsRow}
use Rattle.scan_line.specs.Steps.{machine_bytes}
use Rattle.write_table.proofs.Right.{lent}
use Rattle.convert_row.specs.Conversions.{convert_row_of}
use Rattle.convert_row.proofs.Right.{convert_row_right}
use Rattle.rows.proofs.convert_row.Goals as goal

pub returns : goal.returns
returns c =
    let stored = c.args.stored.now in
    let room = length c.args.out.now in
    subst (ConvertsRow stored room) (sym (c.convert_row_by.ensures ∙ ap (λ (m : List ℕ). convert_row_of m stored room) c.machine-made.ensures))
    (convert_row_right first_lines (machine_bytes first_lines) stored room (omega arith) (λ i h. (c.shared_slice_known-1.given i).fits) (lent first_lines))
