-- `read_line::keeps_all` meets its contract: what was counted has no refusal. Assumes nothing.
use Rattle.read_line.proofs.Answered.{keeps_is}
use Rattle.read_line.proofs.keeps_all.Goals as goal

pub returns : goal.returns
returns c = keeps_is _ _ c.read_at.ensures c.total-t.ensures c.first_refusal.ensures c.is_none.ensures
