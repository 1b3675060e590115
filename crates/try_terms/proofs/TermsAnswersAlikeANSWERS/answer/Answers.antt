-- `try_terms::TermsAnswersAlikeANSWERS::answer` meets its contract. Assumes nothing.
use Rattle.try_terms.proofs.Answering.{answered_by}
use Rattle.try_terms.proofs.TermsAnswersAlikeANSWERS.answer.Goals as goal

pub returns-clause-answered : goal.returns-clause-answered
returns-clause-answered c = answered_by c.room-t.ensures c.line.ensures c.answer-end.ensures c.put8.ensures c.answered.ensures
