-- `run_relabel::RelabellerAnswersAlikeBUFFER::answer` meets its contract. Assumes nothing.
use borrow.Author.Rules.{rules}
use native.Mathlib.Omega.{arith}
use Rattle.run_relabel.proofs.Answering.{answered_by}
use Rattle.run_relabel.proofs.Short.{number_short}
use Rattle.run_relabel.proofs.RelabellerAnswersAlikeBUFFER.answer.Goals as goal

pub returns-clause-answered : goal.returns-clause-answered
returns-clause-answered c =
    answered_by c.room-t.ensures (omega arith) c.line.ensures (search rules) (number_short c.spell-a.result) c.put_answer-end.ensures.short c.spell-a.ensures
    c.put_answer-end.ensures c.put8.ensures c.answered.ensures
