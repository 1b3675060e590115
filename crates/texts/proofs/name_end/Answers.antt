-- `texts::name_end` meets its contract: all bytes before a place go on with a name, until one does not. Assumes nothing.
use mathlib.Core.Path.{sym, ◌∙◌}
use native.Mathlib.Omega.{arith}
use borrow.Author.Tests.{not-false}
use Rattle.texts.proofs.NameLoop.{begin, stops, turn, ends}
use Rattle.texts.proofs.name_end.Goals as goal

pub loop-len-init : goal.loop-len-init
loop-len-init c = begin

pub returns-then-not-goes_on : goal.returns-then-not-goes_on
returns-then-not-goes_on c = stops c.loop-len.invariant c.loop-len-test.true c.goes_on.ensures c.if-not-goes_on.true

pub open_behind-depth-requires : goal.open_behind-depth-requires
open_behind-depth-requires c = (omega (arith, c.loop-len.invariant.few, c.loop-len-test.true), sym c.goes_on.ensures ∙ not-false _ c.if-not-goes_on.false-raw)

pub loop-len-preserved : goal.loop-len-preserved
loop-len-preserved c = turn c.loop-len.invariant c.loop-len-test.true c.goes_on.ensures c.if-not-goes_on.false c.open_behind-depth.ensures

pub returns : goal.returns
returns c = ends c.loop-len.invariant c.loop-len-test.false
