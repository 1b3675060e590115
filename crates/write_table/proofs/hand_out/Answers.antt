-- `write_table::hand_out` meets its contract: by what is wanted. Assumes nothing.
use mathlib.Core.Path.{sym, ap, ◌∙◌}
use lib.ListN.{length}
use Rattle.layout.specs.Editions.{edition_of}
use Rattle.write_table.specs.declared.Wanted.{Wanted}
use Rattle.write_table.specs.Writings.{handed_of}
use Rattle.write_table.proofs.hand_out.Goals as goal

pub returns-in-Line : goal.returns-in-Line
returns-in-Line c =
    let a = c.args in
    c.put_line.ensures ∙ ap (λ (x : Wanted). handed_of x (edition_of a.edition) a.line.now (length a.out.now)) (sym c.in-Line.is)

pub returns-in-Table : goal.returns-in-Table
returns-in-Table c =
    let a = c.args in
    c.read_shaped.ensures ∙ ap (λ (x : Wanted). handed_of x (edition_of a.edition) a.line.now (length a.out.now)) (sym c.in-Table.is)
