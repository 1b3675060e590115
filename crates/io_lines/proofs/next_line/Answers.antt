-- `io_lines::next_line` meets its contract: with each turn of the search a byte more came. Assumes nothing.
use Rattle.io_lines.proofs.Searches.{first, settles, next, spent}
use mathlib.Core.Path.{sym, ◌∙◌}
use native.Mathlib.Omega.{arith}
use Rattle.io_lines.proofs.next_line.Goals as goal

pub loop-turn-init : goal.loop-turn-init
loop-turn-init c = first _ c.look-t.ensures

pub returns-then-is_settled : goal.returns-then-is_settled
returns-then-is_settled c = settles c.loop-turn.invariant (sym c.is_settled.ensures ∙ c.if-is_settled.true)

pub loop-turn-preserved : goal.loop-turn-preserved
loop-turn-preserved c =
    next c.loop-turn.invariant (sym c.is_settled.ensures ∙ c.if-is_settled.false) c.refill-more.ensures c.look-t-in-loop-turn.ensures

pub returns : goal.returns
returns c = spent (omega arith) c.loop-turn.invariant
