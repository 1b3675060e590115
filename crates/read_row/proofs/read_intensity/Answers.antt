-- `read_row::read_intensity` meets its contract. Assumes nothing.
use Rattle.faults.specs.declared.Why.TheVariants.{BadIntensity}
use mathlib.Core.Path.{◌∙◌}
use Rattle.answers.proofs.Behind.{refused_is}
use Rattle.read_row.proofs.Steps.{intensity_bad, intensity_good}
use lib.ListN.{length}
use Rattle.read_row.proofs.read_intensity.Goals as goal

pub returns-in_default : goal.returns-in_default
returns-in_default c = refused_is (length c.args.out.now) BadIntensity _ c.refuse.ensures c.clear.ensures ∙ intensity_bad c.args.machine.now c.args.row.now (length c.args.out.now) c.args.at c.args.mz c.rest.ensures c.read_column.ensures c.in_default.is

pub returns : goal.returns
returns c = c.read_third.ensures ∙ intensity_good c.args.machine.now c.args.row.now (length c.args.out.now) c.args.at c.args.mz c.rest.ensures c.read_column.ensures c.in-Ok.is c.advance-to.ensures c.rest-2.ensures
