-- `read_ion::reference` meets its contract: rewritten by its three calls, the name in brackets among them. Assumes nothing.
use Rattle.read_ion.specs.Kinds.{reference_of}
use Rattle.read_ion.proofs.reference.Goals as goal

pub returns : goal.returns
unfolding reference_of
returns c = rw (c.with_text.ensures, c.name_in_brackets-x.ensures, c.rest.ensures)
