-- `scan_line::machine` meets its contract: edition by edition. Assumes nothing.
use Prim.Native.Nat.{ℕ}
use mathlib.Core.Path.{sym, ap, ◌∙◌}
use mathlib.Core.List.{List}
use lib.ListN.{set}
use Rattle.shape.specs.Tables.{states, x_at, y_at, z_at}
use Rattle.scan_line.specs.declared.Lines.{Lines}
use Rattle.scan_line.specs.Lines.{lines_in}
use Rattle.scan_line.specs.Steps.{machine_bytes}
use Rattle.scan_line.proofs.machine.Goals as goal

pub returns-in-First : goal.returns-in-First
unfolding machine_bytes
returns-in-First c =
    ap (λ (m : List ℕ). set (set (set m x_at states) y_at states) z_at states) c.second_machine-bytes.ensures
    ∙ ap (λ (x : Lines). machine_bytes (lines_in x)) (sym c.in-First.is)

pub returns-in-Second : goal.returns-in-Second
unfolding machine_bytes
returns-in-Second c = c.second_machine-bytes.ensures ∙ ap (λ (x : Lines). machine_bytes (lines_in x)) (sym c.in-Second.is)
