-- `read_ion::precursor` meets its contract: only its length is computed, by `advance`. Assumes nothing.
use Rattle.read_ion.specs.Kinds.{precursor_of}
use Rattle.read_ion.proofs.precursor.Goals as goal

pub returns : goal.returns
unfolding precursor_of
returns c = rw c.advance.ensures
