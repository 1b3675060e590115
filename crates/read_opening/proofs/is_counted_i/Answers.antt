-- `read_opening::is_counted_i` meets its contract: by what stands behind the head. Assumes nothing.
use Rattle.read_opening.proofs.is_counted_i.Goals as goal

pub returns : goal.returns
returns c = rw (← c.read_head-h.ensures, ← c.rest.ensures, c.begins_with.ensures)
