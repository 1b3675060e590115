-- `print_ion::ion_bytes` meets its contract: how many bytes of text the record tells, no more than may be. Assumes nothing.
use Rattle.print_ion.specs.Texts.{ion_bytes}
use Rattle.print_ion.proofs.ion_bytes.Goals as goal

pub returns : goal.returns
unfolding ion_bytes
returns c = c.number_at.ensures
