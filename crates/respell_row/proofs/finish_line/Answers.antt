-- `respell_row::finish_line` meets its contract. Assumes nothing.
use Rattle.respell_row.proofs.Steps.{finished_refused, finished_short, finished_done}
use Rattle.respell_row.proofs.finish_line.Goals as goal

pub returns-in-Err : goal.returns-in-Err
returns-in-Err c = finished_refused c.args.out.now c.args.at c.args.n c.in-Err.is c.refuse_line.ensures

pub returns-then-out-size : goal.returns-then-out-size
returns-then-out-size c = finished_short c.args.out.now c.args.at c.args.n c.in-Ok.is c.plus-size.ensures c.if-out-size.true c.clear.ensures c.refuse.ensures

pub returns-else-out-size : goal.returns-else-out-size
returns-else-out-size c = finished_done c.args.out.now c.args.at c.args.n c.in-Ok.is c.plus-size.ensures c.if-out-size.false
