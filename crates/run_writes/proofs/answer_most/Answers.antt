-- `run_writes::answer_most` meets its contract. Assumes nothing.
use lib.ListN.{length}
use borrow.Author.Rules.{rules}
use Rattle.run_writes.specs.Answered.{most_of}
use Rattle.run_writes.proofs.Answering.{written_most}
use Rattle.run_writes.proofs.answer_most.Goals as goal

pub returns : goal.returns
returns c =
    let a = c.args in
    written_most a.task a.machine.now a.sized a.asked.now (length a.table.now) (most_of a.task) c.most_of-most.ensures c.requires (search rules) c.answer_one.ensures
