-- `read_row::end_row` meets its contract. Assumes nothing.
use Rattle.read_row.proofs.Moved.{ended_done, ended_short, ended_eight, ended_refused}
use Rattle.read_row.specs.Readings.{head_bytes}
use Rattle.read_row.proofs.end_row.Goals as goal

pub returns-then-out-size : goal.returns-then-out-size
returns-then-out-size c = ended_short c.args.out.now (head_bytes c.args.mz c.args.intensity) c.args.at c.in-Ok.is c.plus-size.ensures c.if-out-size.true c.clear.ensures c.refuse.ensures

pub returns-else-out-size : goal.returns-else-out-size
returns-else-out-size c = ended_done c.args.out.now (head_bytes c.args.mz c.args.intensity) c.args.at c.in-Ok.is c.plus-size.ensures c.if-out-size.false c.put_head.ensures

pub returns-in-OutputTooShort : goal.returns-in-OutputTooShort
returns-in-OutputTooShort c =
    ended_eight c.args.out.now (head_bytes c.args.mz c.args.intensity) c.args.at c.in-Err.is c.clear-in-Err.ensures c.refuse-in-OutputTooShort.ensures
    c.in-OutputTooShort.is c.plus.ensures

pub returns-in_default : goal.returns-in_default
returns-in_default c =
    ended_refused c.args.out.now (head_bytes c.args.mz c.args.intensity) c.args.at c.in-Err.is c.clear-in-Err.ensures c.refuse-in_default.ensures
    c.in_default.not-OutputTooShort c.plus-in_default.ensures
