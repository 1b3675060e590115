-- `lines::write_in` meets its contract: `write_by` with the machine's own bytes, which scan every line by the rules. Assumes nothing.
use mathlib.Core.Path.{sym, ap, ◌∙◌, subst}
use mathlib.Core.List.{List}
use Prim.Native.Nat.{ℕ}
use lib.ListN.{length}
use Rattle.rules.specs.Answers.{Writes}
use Rattle.scan_line.specs.Lines.{lines_in}
use Rattle.scan_line.specs.Steps.{machine_bytes}
use Rattle.write_table.specs.Writings.{written_of}
use Rattle.write_table.proofs.Right.{lent, write_right}
use Rattle.lines.proofs.write_in.Goals as goal

pub returns : goal.returns
returns c =
    let table = c.args.table.now in
    let room = length c.args.out.now in
    let l = lines_in c.args.lines in
    subst (Writes l table room) (sym (c.write_by.ensures ∙ ap (λ (m : List ℕ). written_of m table room) c.machine-made.ensures))
    (write_right l (machine_bytes l) table room (lent l))
