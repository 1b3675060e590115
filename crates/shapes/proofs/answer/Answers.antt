-- `shapes::answer` meets its contract. Assumes nothing.
use Rattle.shapes.proofs.Showing.{shown_by}
use Rattle.shapes.proofs.answer.Goals as goal

pub returns : goal.returns
returns c = let a = c.args in shown_by a.machine.now a.p c.room-t.ensures c.verdict-v.ensures c.put_verdict-end.ensures c.answered.ensures
