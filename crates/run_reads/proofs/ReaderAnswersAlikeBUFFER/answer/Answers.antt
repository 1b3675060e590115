-- `run_reads::ReaderAnswersAlikeBUFFER::answer` meets its contract. Assumes nothing.
use Rattle.run_reads.proofs.Answering.{answered_by}
use Rattle.run_reads.proofs.ReaderAnswersAlikeBUFFER.answer.Goals as goal

pub returns-clause-answered : goal.returns-clause-answered
returns-clause-answered c = answered_by c.room-t.ensures c.line-line.ensures c.read_one-a.ensures c.put_answer-end.ensures c.answered.ensures
