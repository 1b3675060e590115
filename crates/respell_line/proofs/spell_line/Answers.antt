-- `respell_line::spell_line` meets its contract. Assumes nothing.
use Rattle.respell_line.proofs.Spelling.{spelling_begins, spelling_length, spelling_falls, spelling_turns, spelling_ends, empty_spelled}
use Rattle.put_bytes.proofs.Putting.{put_length}
use native.Mathlib.Omega.{arith}
use borrow.Author.Tests.{eqb-true, eqb-false}
use mathlib.Core.Path.{refl, sym, ◌∙◌}
use Rattle.respell_line.proofs.spell_line.Goals as goal

pub returns-then-is_empty : goal.returns-then-is_empty
returns-then-is_empty c = empty_spelled _ _ (omega arith) (omega (arith, eqb-true _ 0 (sym c.is_empty.ensures ∙ c.if-is_empty.true)))

pub loop-from-init : goal.loop-from-init
loop-from-init c = spelling_begins _ (omega arith) (omega arith)

pub loop-from-smaller : goal.loop-from-smaller
loop-from-smaller c = spelling_falls _ c.loop-from.invariant c.rest.ensures (sym c.begins_with.ensures ∙ c.loop-from-test.true) c.advance-from.ensures c.read_at-p.ensures c.rest-in-loop-from.ensures c.put8-begin.ensures c.spell_annotation-y.ensures c.advance-at-in-loop-from.ensures

pub loop-from-preserved : goal.loop-from-preserved
loop-from-preserved c = spelling_turns _ c.loop-from.invariant c.rest.ensures (sym c.begins_with.ensures ∙ c.loop-from-test.true) c.advance-from.ensures c.read_at-p.ensures c.rest-in-loop-from.ensures c.put8-begin.ensures c.spell_annotation-y.ensures c.advance-at-in-loop-from.ensures

pub shape_of-out : goal.shape_of-out
shape_of-out c = spelling_length c.loop-from.invariant ∙ put_length c.spell_annotation-x.ensures.put

pub returns : goal.returns
returns c = spelling_ends _ c.loop-from.invariant c.rest.ensures _ (omega (arith, eqb-false _ 0 (sym c.is_empty.ensures ∙ c.if-is_empty.false))) c.spell_annotation-x.ensures refl c.advance-at.ensures (sym c.begins_with.ensures ∙ c.loop-from-test.false)
