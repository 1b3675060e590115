-- `read_changes::read_change` meets its contract: head, its limits and content, each by its own contract. Assumes nothing.
use Rattle.read_changes.specs.Changes.{change_of}
use Rattle.read_changes.proofs.read_change.Goals as goal

pub returns : goal.returns
unfolding change_of
returns c = rw (← c.read_head-h.ensures, ← c.head_fault-g.ensures) c.read_content.ensures
