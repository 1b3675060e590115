-- `read_isotopes::store_isotopes` meets its contract: in its loop the records put, and isotopes left, make the whole. Assumes nothing.
use Rattle.std.specs.Prelude.{None}
use Rattle.read_isotopes.proofs.IsotopeLoops.{moves, puts_none, files, filed_all}
use Rattle.put_bytes.proofs.Putting.{put_length}
use native.Mathlib.Omega.{arith}
use mathlib.Core.Path.{sym, ◌∙◌}
use Rattle.read_isotopes.proofs.store_isotopes.Goals as goal

pub loop-x-init : goal.loop-x-init
loop-x-init c = puts_none (omega arith) (omega arith)

pub overflow_add-at : goal.overflow_add-at
overflow_add-at c =
    let moved = moves c.loop-x.invariant.passed c.rest.ensures 0 0 None
    (sym c.begins_isotope.ensures ∙ c.loop-x-test.true) c.rest-in-loop-x.ensures c.isotope-x.ensures in
    omega (arith, c.well_formed.0, moved)

pub overflow_add-n : goal.overflow_add-n
overflow_add-n c =
    let moved = moves c.loop-x.invariant.passed c.rest.ensures 0 0 None
    (sym c.begins_isotope.ensures ∙ c.loop-x-test.true) c.rest-in-loop-x.ensures c.isotope-x.ensures in
    omega (arith, c.well_formed.0, c.loop-x.invariant.passed.few, moved)

pub loop-x-smaller : goal.loop-x-smaller
loop-x-smaller c =
    let moved = moves c.loop-x.invariant.passed c.rest.ensures 0 0 None
    (sym c.begins_isotope.ensures ∙ c.loop-x-test.true) c.rest-in-loop-x.ensures c.isotope-x.ensures in
    omega (arith, moved)

pub loop-x-preserved : goal.loop-x-preserved
loop-x-preserved c = files c.loop-x.invariant c.rest.ensures (sym c.begins_isotope.ensures ∙ c.loop-x-test.true) c.rest-in-loop-x.ensures c.isotope-x.ensures c.put_isotope-next.ensures

pub shape_of-out : goal.shape_of-out
shape_of-out c = put_length c.loop-x.invariant.put

pub returns : goal.returns
returns c = filed_all c.loop-x.invariant c.rest.ensures (sym c.begins_isotope.ensures ∙ c.loop-x-test.false)
