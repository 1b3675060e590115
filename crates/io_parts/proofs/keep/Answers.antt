-- `io_parts::keep` meets its contract. Assumes nothing.
use Rattle.io_parts.proofs.Moves.{begin, turn, ends}
use borrow.Author.Rules.{rules}
use Rattle.io_parts.proofs.keep.Goals as goal

pub loop-done-init : goal.loop-done-init
loop-done-init c = begin (search rules)

pub loop-done-preserved : goal.loop-done-preserved
loop-done-preserved c = turn c.loop-done.invariant c.loop-done-test.true

pub returns : goal.returns
returns c = ends c.loop-done.invariant c.loop-done-test.false c.behind-kept.ensures
