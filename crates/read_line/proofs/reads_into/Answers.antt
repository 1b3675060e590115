-- `read_line::reads_into` meets its contract: what was read is compared. Assumes nothing.
use mathlib.Core.Path.{◌∙◌}
use Rattle.layout.specs.Editions.{edition_of}
use Rattle.scan_line.specs.Steps.{scanned_by}
use Rattle.read_line.proofs.Back.{reads_not, reads_same}
use Rattle.read_line.proofs.Same.{bytes_all, same_told}
use Rattle.read_line.proofs.reads_into.Goals as goal

pub returns-in-Ok : goal.returns-in-Ok
returns-in-Ok c =
    let a = c.args in
    reads_same (edition_of a.edition) (scanned_by a.machine.now a.line.now) a.scratch.now a.line.now a.table.now (bytes_all a.line.now (λ i h. (c.type_inv.line i).fits))
    c.in-Ok.is c.read_any.ensures c.first_of.ensures (c.eq.ensures ∙ same_told _ _)

pub returns-in-Err : goal.returns-in-Err
returns-in-Err c =
    let a = c.args in
    reads_not (edition_of a.edition) (scanned_by a.machine.now a.line.now) a.scratch.now a.line.now a.table.now (bytes_all a.line.now (λ i h. (c.type_inv.line i).fits))
    c.in-Err.is c.read_any.ensures
