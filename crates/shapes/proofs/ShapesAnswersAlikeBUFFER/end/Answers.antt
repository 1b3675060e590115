-- `shapes::ShapesAnswersAlikeBUFFER::end` meets its contract. Assumes nothing.
use Rattle.shapes.proofs.Showing.{last_shown, last_none}
use mathlib.Core.Path.{sym, ◌∙◌}
use Rattle.shapes.proofs.ShapesAnswersAlikeBUFFER.end.Goals as goal

pub returns-then-is_begun-clause-last : goal.returns-then-is_begun-clause-last
returns-then-is_begun-clause-last c = last_shown (sym c.is_begun.ensures ∙ c.if-is_begun.true) c.answer.ensures

pub returns-else-is_begun-clause-last : goal.returns-else-is_begun-clause-last
returns-else-is_begun-clause-last c = last_none (sym c.is_begun.ensures ∙ c.if-is_begun.false)
