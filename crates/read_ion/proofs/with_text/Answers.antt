-- `read_ion::with_text` meets its contract: only its length is computed, by `advance`. Assumes nothing.
use Rattle.read_ion.proofs.with_text.Goals as goal

pub returns : goal.returns
returns c = rw c.advance.ensures
