-- `put_formula::stored_unit` meets its contract: field by field, from the number at its place. Assumes nothing.
use Rattle.rules.specs.Layout.{unit_width, atom_count_at}
use Rattle.put_formula.specs.Records.{stored_unit}
use Rattle.slices.specs.Numbers.{u16_at}
use mathlib.Core.Path.{ap, ◌∙◌}
use Rattle.put_formula.proofs.stored_unit.Goals as goal

pub returns : goal.returns
unfolding stored_unit
returns c = λ i. record { nucleons = c.u16_at-nucleons.ensures i; element = (c.u16_at-element.ensures ∙ ap u16_at c.rest.ensures) i; count = (c.u16_at-count.ensures ∙ ap u16_at c.rest-2.ensures) i; count_at = atom_count_at; len = unit_width }
