-- `read_ion::composed` meets its contract: rewritten by the formula behind `f{` and the two steps over it. Assumes nothing.
use Rattle.read_ion.specs.Kinds.{composed_of}
use Rattle.read_ion.proofs.composed.Goals as goal

pub returns : goal.returns
unfolding composed_of
returns c = rw (c.advance-2.ensures, c.advance.ensures, c.formula-x.ensures, c.rest.ensures)
