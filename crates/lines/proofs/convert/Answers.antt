-- `lines::convert` meets its contract: `convert_by` with the machine's own bytes, which scan every line by the rules. Assumes nothing.
use mathlib.Core.Path.{sym, ap, ◌∙◌, subst}
use mathlib.Core.List.{List}
use Prim.Native.Nat.{ℕ}
use native.Mathlib.Omega.{arith}
use lib.ListN.{length}
use Rattle.rules.specs.Answers.{Converts}
use Rattle.rules.specs.Editions.{first_lines}
use Rattle.scan_line.specs.Steps.{machine_bytes}
use Rattle.write_table.specs.Writings.{converted_of}
use Rattle.write_table.proofs.Right.{lent, convert_right}
use Rattle.lines.proofs.convert.Goals as goal

pub returns : goal.returns
returns c =
    let table = c.args.table.now in
    let room = length c.args.out.now in
    subst (Converts table room) (sym (c.convert_by.ensures ∙ ap (λ (m : List ℕ). converted_of m table room) c.machine-made.ensures))
    (convert_right first_lines (machine_bytes first_lines) table room (omega arith) (lent first_lines))
