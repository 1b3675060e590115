-- `write_table::edition_for` meets its contract: by what is wanted. Assumes nothing.
use mathlib.Core.Path.{sym, ap, ◌∙◌}
use Rattle.write_table.specs.declared.Wanted.{Wanted}
use Rattle.write_table.specs.Writings.{edition_for}
use Rattle.write_table.proofs.edition_for.Goals as goal

pub returns-in-Line : goal.returns-in-Line
returns-in-Line c =
    let table = c.args.table.now in
    c.edition_at.ensures ∙ ap (λ (x : Wanted). edition_for x table) (sym c.in-Line.is)

pub returns-in-Table : goal.returns-in-Table
returns-in-Table c = let table = c.args.table.now in ap (λ (x : Wanted). edition_for x table) (sym c.in-Table.is)
