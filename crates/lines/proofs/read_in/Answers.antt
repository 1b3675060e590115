-- `lines::read_in` meets its contract: `read_by` with the machine's own bytes, which scan by the rules. Assumes nothing.
use mathlib.Core.Path.{sym, ap, ◌∙◌, subst}
use mathlib.Core.List.{List}
use Prim.Native.Nat.{ℕ}
use native.Mathlib.Omega.{arith}
use lib.ListN.{length}
use Rattle.rules.specs.Answers.{Reads}
use Rattle.scan_line.specs.Lines.{lines_in}
use Rattle.scan_line.specs.Steps.{machine_bytes, scanned_by}
use Rattle.scan_line.proofs.Scans.{by_machine}
use Rattle.read_line.specs.Readings.{read_of}
use Rattle.read_line.proofs.Right.{read_right}
use Rattle.lines.proofs.read_in.Goals as goal

pub returns : goal.returns
returns c =
    let line = c.args.line.now in
    let room = length c.args.out.now in
    let l = lines_in c.args.lines in
    subst (Reads l line room) (sym (c.read_by.ensures ∙ ap (λ (m : List ℕ). read_of (scanned_by m line) line room) c.machine-made.ensures))
    (read_right l line room (omega arith) (scanned_by (machine_bytes l) line)
    (by_machine l line (λ i h. (c.shared_slice_known-1.given i).fits) (omega arith)))
