-- `read_isotopes::isotopes` meets its contract: in its loop those passed, and those left, make the row. Assumes nothing.
use Rattle.read_isotopes.proofs.IsotopeLoops.{begin, moves, counts, counted_all}
use native.Mathlib.Omega.{arith}
use mathlib.Core.Path.{sym, ◌∙◌}
use Rattle.read_isotopes.proofs.isotopes.Goals as goal

pub loop-x-init : goal.loop-x-init
loop-x-init c = begin

pub overflow_add-at : goal.overflow_add-at
overflow_add-at c =
    let moved = moves c.loop-x.invariant c.rest.ensures c.loop-x.n c.args.end c.loop-x.fault
    (sym c.begins_isotope.ensures ∙ c.loop-x-test.true) c.rest-in-loop-x.ensures c.isotope-x.ensures in
    omega (arith, moved)

pub overflow_add-n : goal.overflow_add-n
overflow_add-n c =
    let moved = moves c.loop-x.invariant c.rest.ensures c.loop-x.n c.args.end c.loop-x.fault
    (sym c.begins_isotope.ensures ∙ c.loop-x-test.true) c.rest-in-loop-x.ensures c.isotope-x.ensures in
    omega (arith, c.loop-x.invariant.few, moved)

pub loop-x-smaller : goal.loop-x-smaller
loop-x-smaller c =
    let moved = moves c.loop-x.invariant c.rest.ensures c.loop-x.n c.args.end c.loop-x.fault
    (sym c.begins_isotope.ensures ∙ c.loop-x-test.true) c.rest-in-loop-x.ensures c.isotope-x.ensures in
    omega (arith, moved)

pub loop-x-preserved : goal.loop-x-preserved
loop-x-preserved c = counts c.args.end c.loop-x.invariant c.rest.ensures (sym c.begins_isotope.ensures ∙ c.loop-x-test.true) c.rest-in-loop-x.ensures c.isotope-x.ensures

pub returns : goal.returns
returns c = counted_all c.args.end c.loop-x.invariant c.rest.ensures (sym c.begins_isotope.ensures ∙ c.loop-x-test.false)
