-- `write_row::end_bare` meets its contract. Assumes nothing.
use Rattle.write_row.proofs.Steps.{bare_short, bare_done}
use Rattle.write_row.proofs.end_bare.Goals as goal

pub returns-then-out-to : goal.returns-then-out-to
returns-then-out-to c = bare_short c.args.out.now c.args.to c.if-out-to.true c.refuse.ensures c.clear.ensures

pub returns : goal.returns
returns c = bare_done c.args.out.now c.args.to c.if-out-to.false c.clear_from.ensures
