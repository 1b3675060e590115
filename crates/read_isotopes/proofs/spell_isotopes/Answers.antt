-- `read_isotopes::spell_isotopes` meets its contract. Assumes nothing.
use Rattle.std.specs.Prelude.{None}
use Rattle.read_isotopes.proofs.IsotopeLoops.{moves, spells_none, spells, spelled_all}
use Rattle.put_bytes.proofs.Putting.{put_length}
use native.Mathlib.Omega.{arith}
use mathlib.Core.Path.{sym, ◌∙◌}
use Rattle.read_isotopes.proofs.spell_isotopes.Goals as goal

pub loop-x-init : goal.loop-x-init
loop-x-init c = spells_none (omega arith) (omega arith)

pub overflow_add-len : goal.overflow_add-len
overflow_add-len c =
    let moved = moves c.loop-x.invariant.puts.passed c.rest.ensures 0 0 None
    (sym c.begins_isotope.ensures ∙ c.loop-x-test.true) c.rest-in-loop-x.ensures c.isotope-x.ensures in
    omega (arith, c.well_formed.1.1.0, moved)

pub loop-x-smaller : goal.loop-x-smaller
loop-x-smaller c =
    let moved = moves c.loop-x.invariant.puts.passed c.rest.ensures 0 0 None
    (sym c.begins_isotope.ensures ∙ c.loop-x-test.true) c.rest-in-loop-x.ensures c.isotope-x.ensures in
    omega (arith, moved)

pub loop-x-preserved : goal.loop-x-preserved
loop-x-preserved c = spells c.loop-x.invariant c.rest.ensures (sym c.begins_isotope.ensures ∙ c.loop-x-test.true) c.rest-in-loop-x.ensures c.isotope-x.ensures c.rest-in-loop-x-2.ensures c.spell_isotope-end.ensures

pub shape_of-out : goal.shape_of-out
shape_of-out c = put_length c.loop-x.invariant.puts.put

pub returns : goal.returns
returns c = spelled_all c.loop-x.invariant c.rest.ensures (sym c.begins_isotope.ensures ∙ c.loop-x-test.false)
