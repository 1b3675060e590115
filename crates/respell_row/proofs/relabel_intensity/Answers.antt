-- `respell_row::relabel_intensity` meets its contract. Assumes nothing.
use Rattle.respell_row.proofs.Steps.{intensity_bad, intensity_good}
use Rattle.answers.proofs.Behind.{refused_is}
use lib.ListN.{length}
use Rattle.faults.specs.declared.Why.TheVariants.{BadIntensity}
use mathlib.Core.Path.{◌∙◌}
use Rattle.respell_row.proofs.relabel_intensity.Goals as goal

pub returns-in_default : goal.returns-in_default
returns-in_default c = refused_is (length c.args.out.now) BadIntensity _ c.refuse.ensures c.clear.ensures ∙ intensity_bad c.args.machine.now c.args.row.now (length c.args.out.now) c.args.at c.rest.ensures c.read_column.ensures c.in_default.is

pub returns : goal.returns
returns c = c.relabel_columns.ensures ∙ intensity_good c.args.machine.now c.args.row.now (length c.args.out.now) c.args.at c.rest.ensures c.read_column.ensures c.in-Ok.is c.advance-end.ensures c.advance-to.ensures
