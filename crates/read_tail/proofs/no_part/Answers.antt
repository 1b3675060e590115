-- `read_tail::no_part` meets its contract: by the contract of `zero`. Assumes nothing.
use Rattle.read_tail.proofs.no_part.Goals as goal

pub returns : goal.returns
returns c = rw c.zero.ensures
