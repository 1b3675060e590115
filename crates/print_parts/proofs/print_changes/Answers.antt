-- `print_parts::print_changes` meets its contract. Assumes nothing.
use native.Mathlib.Omega.{arith}
use Rattle.print_parts.proofs.PrintLoop.{changes_begin, changes_turn, changes_end, few_units}
use Rattle.print_parts.proofs.print_changes.Goals as goal

pub loop-init : goal.loop-init
loop-init c = changes_begin _ _ _ _ (omega arith) (omega arith)

pub overflow_mul-units_of : goal.overflow_mul-units_of
overflow_mul-units_of c = omega (arith, c.units_of.ensures, few_units c.loop.rows.now)

pub loop-preserved : goal.loop-preserved
loop-preserved c =
    changes_turn _ _ _ _ c.loop.invariant c.loop-test.true c.print_change-at.ensures
    c.units_of.ensures c.rest-units.ensures c.name_of.ensures c.rest-text.ensures c.rest-rows.ensures

pub returns : goal.returns
returns c = changes_end _ _ _ _ c.loop.invariant c.loop-test.false
