-- `read_line::store_all` meets its contract: an empty line; else the loop, which walks the line and runs its events. Assumes nothing.
use Rattle.read_line.proofs.Storing.{storing_begins, storing_length, storing_falls, storing_turns, storing_ends, empty_stored}
use Rattle.store_sections.proofs.Events.{ran_length}
use mathlib.Core.Path.{sym, ◌∙◌}
use native.Mathlib.Omega.{arith}
use Rattle.read_line.proofs.store_all.Goals as goal

pub returns-then-line-lt1 : goal.returns-then-line-lt1
returns-then-line-lt1 c = empty_stored _ _ _ _ _ (omega arith) c.if-line-lt1.true

pub loop-edition-init : goal.loop-edition-init
loop-edition-init c = storing_begins _ _ _ (omega arith)

pub loop-edition-smaller : goal.loop-edition-smaller
loop-edition-smaller c = storing_falls _ _ c.loop-edition.invariant c.rest.ensures (sym c.begins_with.ensures ∙ c.loop-edition-test.true) c.advance-from.ensures c.read_at-p.ensures c.store_next-more.ensures

pub loop-edition-preserved : goal.loop-edition-preserved
loop-edition-preserved c = storing_turns _ _ c.loop-edition.invariant c.rest.ensures (sym c.begins_with.ensures ∙ c.loop-edition-test.true) c.advance-from.ensures c.read_at-p.ensures c.store_next-more.ensures

pub shape_of-out : goal.shape_of-out
shape_of-out c = storing_length c.loop-edition.invariant ∙ ran_length c.store_next-t.ensures.ran

pub returns : goal.returns
returns c = storing_ends _ _ c.loop-edition.invariant c.rest.ensures c.if-line-lt1.false c.store_next-t.ensures (sym c.begins_with.ensures ∙ c.loop-edition-test.false)
