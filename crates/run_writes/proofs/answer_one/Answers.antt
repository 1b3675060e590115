-- `run_writes::answer_one` meets its contract: sized, or not. Assumes nothing.
use lib.ListN.{length}
use Rattle.run_writes.proofs.Answering.{one_sized, one_plain}
use borrow.Author.Rules.{rules}
use Rattle.run_writes.proofs.answer_one.Goals as goal

pub returns-then-sized : goal.returns-then-sized
returns-then-sized c =
    let a = c.args in
    one_sized a.task a.machine.now a.sized a.asked.now (length a.table.now) c.if-sized.true c.answer_sized.ensures

pub returns-else-sized : goal.returns-else-sized
returns-else-sized c =
    let a = c.args in
    one_plain a.task a.machine.now a.sized a.asked.now (length a.table.now) c.if-sized.false (search rules) c.answer_hex.ensures
