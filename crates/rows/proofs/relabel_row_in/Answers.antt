-- `rows::relabel_row_in` meets its contract. Assumes nothing.
use native.Mathlib.Omega.{arith}
use lib.ListN.{length}
use Rattle.scan_line.specs.Lines.{lines_in}
use Rattle.rows.proofs.RelabelRow.{relabel_row_made}
use Rattle.rows.proofs.relabel_row_in.Goals as goal

pub returns : goal.returns
returns c =
    relabel_row_made (lines_in c.args.lines) c.args.row.now (length c.args.out.now) _ c.machine-made.ensures (omega arith)
    (λ i h. (c.shared_slice_known-1.given i).fits) (omega arith) c.relabel_row_by.ensures
