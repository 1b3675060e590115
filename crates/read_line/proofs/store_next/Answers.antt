-- `read_line::store_next` meets its contract: `store` on what is left, and the place behind it. Assumes nothing.
use Rattle.read_line.proofs.Storing.{next_stored}
use Rattle.read_line.proofs.store_next.Goals as goal

pub returns : goal.returns
returns c = next_stored _ _ _ _ c.rest.ensures c.store-x.ensures c.advance.ensures
