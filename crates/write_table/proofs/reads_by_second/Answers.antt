-- `write_table::reads_by_second` meets its contract: by the machine that was made. Assumes nothing.
use Prim.Native.Nat.{ℕ}
use mathlib.Core.Path.{ap, ◌∙◌}
use mathlib.Core.List.{List}
use Rattle.rules.specs.Editions.{current}
use Rattle.rules.specs.Largest.{max_any_table}
use Rattle.scan_line.specs.Steps.{scanned_by}
use Rattle.read_line.specs.Back.{reads_to, zeros}
use Rattle.write_table.proofs.reads_by_second.Goals as goal

pub returns : goal.returns
returns c =
    let a = c.args in
    c.reads_to.ensures ∙ ap (λ (m : List ℕ). reads_to current (scanned_by m a.line.now) (zeros max_any_table) a.line.now a.table.now) c.machine-second.ensures
