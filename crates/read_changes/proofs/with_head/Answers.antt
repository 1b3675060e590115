-- `read_changes::with_head` meets its contract: only its length is computed, by `advance`. Assumes nothing.
use Rattle.read_changes.proofs.with_head.Goals as goal

pub returns : goal.returns
returns c = rw c.advance.ensures
