-- `read_tail::read_confidence` meets its contract: no `*`, or a decimal that may begin with the point, as a part. Assumes nothing.
use borrow.Author.Tests.{not-true, not-false}
use mathlib.Core.Path.{sym, ◌∙◌}
use native.Mathlib.Omega.{arith}
use Rattle.numbers.specs.declared.FirstByte.TheVariants.{DigitOrPoint}
use Rattle.read_tail.proofs.Devs.{with_star}
use Rattle.read_tail.proofs.Measures.{decimal_fits}
use Rattle.read_tail.specs.Decimals.{confidence_of}
use Rattle.read_tail.proofs.read_confidence.Goals as goal

pub returns-then-not-begins_with : goal.returns-then-not-begins_with
unfolding confidence_of
returns-then-not-begins_with c = rw (sym c.begins_with.ensures ∙ not-true _ c.if-not-begins_with.true-raw) c.no_part.ensures

pub overflow_add-d : goal.overflow_add-d
overflow_add-d c = omega (arith, decimal_fits c.args.s.now 1 c.rest-t.ensures DigitOrPoint c.read_decimal-d.ensures)

pub returns : goal.returns
returns c =
    with_star c.args.s.now c.args.end c.args.f
    (sym c.begins_with.ensures ∙ not-false _ c.if-not-begins_with.false-raw) c.rest-t.ensures c.begins_with-bare.ensures
    c.digit_at-at.ensures c.read_decimal-d.ensures c.minus_or_zero.ensures
    c.minus_or_zero-place.ensures c.made_part.ensures
