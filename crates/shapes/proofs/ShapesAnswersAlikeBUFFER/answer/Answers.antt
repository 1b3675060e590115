-- `shapes::ShapesAnswersAlikeBUFFER::answer` meets its contract. Assumes nothing.
use mathlib.Core.Path.{sym, ◌∙◌}
use Rattle.shapes.proofs.Showing.{part_ends, part_goes_on}
use Rattle.shapes.proofs.ShapesAnswersAlikeBUFFER.answer.Goals as goal

pub returns-then-not-is_fed-clause-parted : goal.returns-then-not-is_fed-clause-parted
returns-then-not-is_fed-clause-parted c = part_goes_on (sym c.is_fed.ensures ∙ c.if-not-is_fed.true) c.line.ensures c.over-scan.ensures

pub returns-clause-parted : goal.returns-clause-parted
returns-clause-parted c =
    part_ends (sym c.is_fed.ensures ∙ c.if-not-is_fed.false) c.line.ensures c.over-scan.ensures c.answer.ensures c.begin-self.ensures
