-- `sort_changes::gather_all` meets its contract: in its loop what was gathered, and what is left, make the whole. Assumes nothing.
use Rattle.sort_changes.proofs.Gathers.{begin, same_long, moves, turn, ends}
use native.Mathlib.Omega.{arith}
use mathlib.Core.Path.{sym, ◌∙◌}
use Rattle.sort_changes.proofs.gather_all.Goals as goal

pub loop-keys-init : goal.loop-keys-init
loop-keys-init c = begin c.none.ensures

pub loop-keys-smaller : goal.loop-keys-smaller
loop-keys-smaller c = omega (arith, moves c.loop-keys.invariant c.rest.ensures (sym c.begins_change.ensures ∙ c.loop-keys-test.true) c.gather_one-g.ensures)

pub loop-keys-preserved : goal.loop-keys-preserved
loop-keys-preserved c = turn c.loop-keys.invariant c.rest.ensures (sym c.begins_change.ensures ∙ c.loop-keys-test.true) c.gather_one-g.ensures

pub shape_of-keys : goal.shape_of-keys
shape_of-keys c = same_long c.loop-keys.invariant

pub returns : goal.returns
returns c = ends c.loop-keys.invariant c.rest.ensures (sym c.begins_change.ensures ∙ c.loop-keys-test.false)
