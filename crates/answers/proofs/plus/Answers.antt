-- `answers::plus` meets its contract. Assumes nothing.
use Rattle.answers.specs.Behind.{capped}
use Rattle.answers.proofs.plus.Goals as goal

pub returns : goal.returns
unfolding capped
returns c = c.saturating_add.ensures
