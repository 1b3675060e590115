-- `read_formula::formula` meets its contract: in its loop the units passed, and those left, make the whole. Assumes nothing.
use mathlib.Core.Path.{sym, ◌∙◌}
use native.Mathlib.Omega.{arith}
use Rattle.read_formula.proofs.UnitLoop.{begin, moves, turn, ends}
use Rattle.read_formula.proofs.formula.Goals as goal

pub loop-u-init : goal.loop-u-init
loop-u-init c = begin

pub overflow_sub-s : goal.overflow_sub-s
overflow_sub-s c = omega (arith, c.loop-u.invariant.inside)

pub overflow_add-at : goal.overflow_add-at
overflow_add-at c = omega (arith, moves c.loop-u.invariant c.rest.ensures (sym c.begins_unit.ensures ∙ c.loop-u-test.true) c.rest-in-loop-u.ensures c.unit_span-u.ensures)

pub overflow_add-units : goal.overflow_add-units
overflow_add-units c =
    omega (
      arith,
      c.loop-u.invariant.few,
      moves c.loop-u.invariant c.rest.ensures
          (sym c.begins_unit.ensures ∙ c.loop-u-test.true) c.rest-in-loop-u.ensures c.unit_span-u.ensures,
    )

pub loop-u-smaller : goal.loop-u-smaller
loop-u-smaller c = omega (arith, moves c.loop-u.invariant c.rest.ensures (sym c.begins_unit.ensures ∙ c.loop-u-test.true) c.rest-in-loop-u.ensures c.unit_span-u.ensures)

pub loop-u-preserved : goal.loop-u-preserved
loop-u-preserved c = turn c.loop-u.invariant c.rest.ensures (sym c.begins_unit.ensures ∙ c.loop-u-test.true) c.rest-in-loop-u.ensures c.unit_span-u.ensures c.numbers_fault-fault.ensures

pub returns : goal.returns
returns c = ends c.loop-u.invariant c.rest.ensures (sym c.begins_unit.ensures ∙ c.loop-u-test.false)
