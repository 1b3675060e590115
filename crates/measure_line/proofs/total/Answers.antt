-- `measure_line::total` meets its contract: an empty line, or in its loop those counted, and those left, make the whole. Assumes nothing.
use Rattle.measure_line.proofs.AnnotationLoops.{empty_totals, counting_begins, counting_ends, counting_turns, counting_falls}
use mathlib.Core.Path.{sym, ◌∙◌}
use Rattle.measure_line.proofs.total.Goals as goal

pub returns-then-line-lt1 : goal.returns-then-line-lt1
returns-then-line-lt1 c = empty_totals _ _ _ c.if-line-lt1.true c.before_all-none.ensures

pub loop-edition-init : goal.loop-edition-init
loop-edition-init c = counting_begins _ _ _

pub loop-edition-smaller : goal.loop-edition-smaller
loop-edition-smaller c = counting_falls _ _ c.loop-edition.invariant c.rest.ensures (sym c.begins_with.ensures ∙ c.loop-edition-test.true) c.add_next-more.ensures

pub loop-edition-preserved : goal.loop-edition-preserved
loop-edition-preserved c = counting_turns _ _ c.loop-edition.invariant c.rest.ensures (sym c.begins_with.ensures ∙ c.loop-edition-test.true) c.add_next-more.ensures

pub returns : goal.returns
returns c = counting_ends _ _ c.loop-edition.invariant c.rest.ensures c.args.first c.if-line-lt1.false c.add_first-t.ensures (sym c.begins_with.ensures ∙ c.loop-edition-test.false)
