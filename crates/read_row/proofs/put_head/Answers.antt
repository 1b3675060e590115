-- `read_row::put_head` meets its contract. Assumes nothing.
use Rattle.read_row.proofs.Steps.{head_put}
use Rattle.read_row.proofs.put_head.Goals as goal

pub returns : goal.returns
returns c = head_put c.value.ensures c.value-2.ensures c.places.ensures c.places-2.ensures c.put_le-second.ensures c.put_le-places.ensures c.put_le-more.ensures c.put_le-zero.ensures c.put_le.ensures
