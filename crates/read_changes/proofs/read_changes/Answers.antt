-- `read_changes::read_changes` meets its contract: in its loop those passed, and those left, make the row. Assumes nothing.
use mathlib.Core.Path.{refl, sym, ◌∙◌}
use native.Mathlib.Omega.{arith}
use Rattle.read_changes.proofs.ChangeLoop.{begin, moves, turn, ends}
use Rattle.read_changes.proofs.read_changes.Goals as goal

pub loop-x-init : goal.loop-x-init
loop-x-init c = begin

pub overflow_add-units : goal.overflow_add-units
overflow_add-units c =
    let moved = moves c.loop-x.invariant c.rest.ensures (sym c.begins_change.ensures ∙ c.loop-x-test.true)
    c.rest-in-loop-x.ensures c.read_change-x.ensures in
    omega (arith, moved.inside, moved.held, c.units-units.ensures)

pub overflow_add-text : goal.overflow_add-text
overflow_add-text c =
    let moved = moves c.loop-x.invariant c.rest.ensures (sym c.begins_change.ensures ∙ c.loop-x-test.true)
    c.rest-in-loop-x.ensures c.read_change-x.ensures in
    omega (arith, c.well_formed.1.0, moved.inside, moved.held, c.name_bytes-text.ensures)

pub overflow_add-at : goal.overflow_add-at
overflow_add-at c =
    let moved = moves c.loop-x.invariant c.rest.ensures (sym c.begins_change.ensures ∙ c.loop-x-test.true)
    c.rest-in-loop-x.ensures c.read_change-x.ensures in
    omega (arith, c.well_formed.1.0, moved.inside)

pub overflow_add-n : goal.overflow_add-n
overflow_add-n c =
    let moved = moves c.loop-x.invariant c.rest.ensures (sym c.begins_change.ensures ∙ c.loop-x-test.true)
    c.rest-in-loop-x.ensures c.read_change-x.ensures in
    omega (arith, c.well_formed.1.0, c.loop-x.invariant.few, moved.some, moved.inside)

pub loop-x-smaller : goal.loop-x-smaller
loop-x-smaller c =
    let moved = moves c.loop-x.invariant c.rest.ensures (sym c.begins_change.ensures ∙ c.loop-x-test.true)
    c.rest-in-loop-x.ensures c.read_change-x.ensures in
    omega (arith, moved.some, moved.inside)

pub loop-x-preserved : goal.loop-x-preserved
loop-x-preserved c = turn c.loop-x.invariant c.rest.ensures (sym c.begins_change.ensures ∙ c.loop-x-test.true) c.rest-in-loop-x.ensures c.read_change-x.ensures c.units-units.ensures c.name_bytes-text.ensures refl

pub returns : goal.returns
returns c = ends c.loop-x.invariant c.rest.ensures (sym c.begins_change.ensures ∙ c.loop-x-test.false)
