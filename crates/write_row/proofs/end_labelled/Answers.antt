-- `write_row::end_labelled` meets its contract. Assumes nothing.
use Rattle.write_row.proofs.Steps.{labelled_short, labelled_done}
use Rattle.write_row.proofs.end_labelled.Goals as goal

pub returns-then-out-size : goal.returns-then-out-size
returns-then-out-size c = labelled_short c.args.out.now c.args.to c.args.n c.plus.ensures c.plus-size.ensures c.if-out-size.true c.refuse.ensures c.clear.ensures

pub returns : goal.returns
returns c = labelled_done c.args.out.now c.args.to c.args.n c.plus.ensures c.plus-size.ensures c.if-out-size.false c.put8.ensures
