-- `print_ion::ion_units` meets its contract: how many units the record tells, no more than may be. Assumes nothing.
use Rattle.print_ion.specs.Texts.{ion_units}
use Rattle.print_ion.proofs.ion_units.Goals as goal

pub returns : goal.returns
unfolding ion_units
returns c = c.number_at.ensures
