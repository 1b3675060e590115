-- `run_relabel::put_answer` meets its contract: a refusal put, or the spelling as it stands. Assumes nothing.
use Rattle.std.proofs.Common.{rules}
use Rattle.run_relabel.proofs.Put.{answer_refused, answer_spelled}
use Rattle.run_relabel.proofs.put_answer.Goals as goal

pub returns-in-Err : goal.returns-in-Err
returns-in-Err c = answer_refused c.in-Err.is (search rules) c.put_refusal.ensures

pub returns-in-Ok : goal.returns-in-Ok
returns-in-Ok c = answer_spelled c.in-Ok.is c.advance.ensures
