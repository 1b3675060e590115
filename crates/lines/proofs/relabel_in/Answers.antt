-- `lines::relabel_in` meets its contract. Assumes nothing.
use Rattle.scan_line.specs.Lines.{lines_in}
use Rattle.lines.proofs.Right.{relabel_made}
use native.Mathlib.Omega.{arith}
use Rattle.lines.proofs.relabel_in.Goals as goal

pub returns : goal.returns
returns c = relabel_made (lines_in c.args.lines) _ _ _ c.machine-made.ensures (λ i h. (c.shared_slice_known-1.given i).fits) (omega arith) c.relabel_by.ensures
