-- `run_writes::WriterAnswersAlikeWAITING::answer` meets its contract. Assumes nothing.
use lib.ListN.{length}
use Rattle.io_lines.specs.Streams.{line_in}
use Rattle.run_writes.specs.Answered.{most_of}
use Rattle.run_writes.proofs.Answering.{answered_by}
use Rattle.run_writes.proofs.WriterAnswersAlikeWAITING.answer.Goals as goal

pub returns-clause-answered : goal.returns-clause-answered
returns-clause-answered c =
    let a = c.args in
    let w = a.self.now in
    answered_by w.task w.form w.machine.now w.sized (line_in a.buf.now a.s) (length w.table) (most_of w.task)
    c.room-t.ensures c.line-asked.ensures c.answer_most-a.ensures c.put_told-end.ensures c.answered.ensures
