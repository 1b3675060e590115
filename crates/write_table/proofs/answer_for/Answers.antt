-- `write_table::answer_for` meets its contract: edition by edition. Assumes nothing.
use lib.ListN.{length}
use Rattle.write_table.proofs.Found.{for_first, for_second}
use Rattle.write_table.proofs.answer_for.Goals as goal

pub returns-in-First : goal.returns-in-First
returns-in-First c =
    let a = c.args in
    for_first a.wanted a.machine.now a.table.now (length a.out.now) c.edition_for.ensures c.in-First.is c.answer_first.ensures

pub returns-in-Second : goal.returns-in-Second
returns-in-Second c =
    let a = c.args in
    for_second a.wanted a.machine.now a.table.now (length a.out.now) c.edition_for.ensures c.in-Second.is c.answer_by.ensures
