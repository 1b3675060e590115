-- `read_ion::unknown` meets its contract: rewritten by its calls for the label and its limit. Assumes nothing.
use Rattle.read_ion.specs.Kinds.{unknown_of}
use Rattle.read_ion.proofs.unknown.Goals as goal

pub returns : goal.returns
unfolding unknown_of
returns c = rw (c.advance.ensures, c.check_number-fault.ensures, c.minus_or_zero-2.ensures, c.minus_or_zero.ensures, c.read_number-n.ensures, c.rest.ensures)
