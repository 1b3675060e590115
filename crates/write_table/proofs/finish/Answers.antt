-- `write_table::finish` meets its contract: by whether the line reads to the bytes. Assumes nothing.
use Rattle.write_table.proofs.Found.{found_not, found_held}
use Rattle.layout.specs.Editions.{edition_of}
use lib.ListN.{length}
use Rattle.write_table.proofs.finish.Goals as goal

pub returns-then-not-held : goal.returns-then-not-held
returns-then-not-held c =
    let a = c.args in
    found_not a.wanted (edition_of a.edition) a.line.now (length a.out.now) a.held c.if-not-held.true c.why_unheld-why.ensures
    c.clear.ensures c.refuse.ensures

pub returns : goal.returns
returns c =
    let a = c.args in
    found_held a.wanted (edition_of a.edition) a.line.now (length a.out.now) a.held _ c.if-not-held.false c.hand_out.ensures
