-- `write_table::put_line` meets its contract: edition by edition. Assumes nothing.
use lib.ListN.{length}
use Rattle.write_table.proofs.Found.{line_first, line_second}
use Rattle.write_table.proofs.put_line.Goals as goal

pub returns-in-First : goal.returns-in-First
returns-in-First c =
    let a = c.args in
    line_first a.line.now (length a.out.now) c.in-First.is c.clear.ensures c.why_first.ensures c.refuse.ensures

pub returns-in-Second : goal.returns-in-Second
returns-in-Second c =
    let a = c.args in
    line_second a.line.now (length a.out.now) c.in-Second.is c.write_line.ensures
