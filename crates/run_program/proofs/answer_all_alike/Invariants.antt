-- `run_program::answer_all_alike` keeps what is asked of all lines. Assumes nothing.
use Rattle.std.proofs.Common.{◌≡◌}
use Rattle.run_program.proofs.answer_all_alike.Given as goal

abbrev pub invariant-loop : goal.invariant-loop
invariant-loop g l = g.A.AnswersAlike.asked l.answers ≡ g.A.AnswersAlike.asked l.fn.answers
