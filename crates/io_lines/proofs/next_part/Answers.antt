-- `io_lines::next_part` meets its contract. Assumes nothing.
use Rattle.io_lines.proofs.Searches.{part_first, part_next}
use mathlib.Core.Path.{sym, ◌∙◌}
use Rattle.io_lines.proofs.next_part.Goals as goal

pub returns-then-is_settled : goal.returns-then-is_settled
returns-then-is_settled c = let p = c.part-t in part_first _ p.ensures (sym c.is_settled.ensures ∙ c.if-is_settled.true)

pub returns : goal.returns
returns c = part_next _ c.part-t.ensures _ (sym c.is_settled.ensures ∙ c.if-is_settled.false) c.refill-more.ensures c.part.ensures
