-- `print_parts::units_of` meets its contract: units of what the record says. Assumes nothing.
use mathlib.Core.Path.{ap, ◌∙◌}
use Rattle.changes.specs.Contents.{content_units}
use Rattle.print_parts.proofs.Tests.{units_told}
use Rattle.print_parts.proofs.units_of.Goals as goal

pub returns : goal.returns
returns c = c.units.ensures ∙ ap content_units c.content_of.ensures ∙ units_told c.args.l.now
