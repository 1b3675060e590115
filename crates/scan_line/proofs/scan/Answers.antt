-- `scan_line::scan` meets its contract: the scan by the machine's bytes is what the rules say. Assumes nothing.
use Rattle.scan_line.proofs.Scans.{by_machine}
use Rattle.scan_line.specs.Lines.{lines_in}
use Rattle.scan_line.specs.Verdicts.{JudgedBy}
use Rattle.scan_line.specs.Steps.{scanned_by}
use mathlib.Core.Path.{sym, ap, ◌∙◌, subst}
use mathlib.Core.List.{List}
use Prim.Native.Nat.{ℕ}
use native.Mathlib.Omega.{arith}
use Rattle.scan_line.proofs.scan.Goals as goal

pub returns : goal.returns
returns c =
    let line = c.args.line.now in
    let lines = c.args.lines in
    subst (JudgedBy (lines_in lines) line) (sym (c.scan_by.ensures ∙ ap (λ (m : List ℕ). scanned_by m line) c.machine.ensures))
    (by_machine (lines_in lines) line (λ i h. (c.shared_slice_known-1.given i).fits) (omega arith))
