-- `numbers::digits_from` meets its contract: in its loop the digits passed, and those left, make the whole. Assumes nothing.
use Rattle.numbers.proofs.Walks.{range, begin, turn, stops, ends}
use borrow.Author.Tests.{not-true, not-false}
use native.Mathlib.Omega.{arith}
use mathlib.Core.Path.{sym, ◌∙◌}
use borrow.Author.Rules.{rules}
use Rattle.numbers.proofs.digits_from.Goals as goal

pub loop-len-init : goal.loop-len-init
loop-len-init c = begin (search rules)

pub returns-then-not-is_digit : goal.returns-then-not-is_digit
returns-then-not-is_digit c = stops c.loop-len.invariant c.loop-len-test.true (sym c.is_digit.ensures ∙ not-true _ c.if-not-is_digit.true-raw)

pub with_digit-value-requires : goal.with_digit-value-requires
with_digit-value-requires c =
    let e = sym c.is_digit.ensures ∙ not-false _ c.if-not-is_digit.false-raw in
    (omega (arith, c.loop-len.invariant.least), (range _ e).0, (range _ e).1)

pub loop-len-preserved : goal.loop-len-preserved
loop-len-preserved c =
    let e = sym c.is_digit.ensures ∙ not-false _ c.if-not-is_digit.false-raw in
    rw c.with_digit-value.ensures (turn c.loop-len.invariant c.loop-len-test.true e)

pub returns : goal.returns
returns c = ends c.loop-len.invariant c.loop-len-test.false
