-- `rows::read_row_in` meets its contract. Assumes nothing.
use mathlib.Core.Path.{sym, ap, ◌∙◌, subst}
use mathlib.Core.List.{List}
use Prim.Native.Nat.{ℕ}
use native.Mathlib.Omega.{arith}
use lib.ListN.{length, drop, length-drop}
use Rattle.rules.specs.RowAnswers.{ReadsRow}
use Rattle.scan_line.specs.Lines.{lines_in}
use Rattle.scan_line.specs.Steps.{machine_bytes}
use Rattle.scan_line.proofs.Scans.{by_machine}
use Rattle.read_row.specs.Readings.{read_row_of}
use Rattle.write_row.proofs.Heads.{bytes_drop}
use Rattle.read_row.proofs.Right.{read_row_right}
use Rattle.rows.proofs.read_row_in.Goals as goal

pub returns : goal.returns
returns c =
    let row = c.args.row.now in
    let room = length c.args.out.now in
    let l = lines_in c.args.lines in
    subst (ReadsRow l row room) (sym (c.read_row_by.ensures ∙ ap (λ (m : List ℕ). read_row_of m row room) c.machine-made.ensures))
    (read_row_right l (machine_bytes l) row room (omega arith)
    (λ n. by_machine l (drop n row) (bytes_drop row n (λ i h. (c.shared_slice_known-1.given i).fits)) (omega (arith, length-drop n row))))
