-- `read_changes::head_fault` meets its contract: the two checks, with their places, rewritten. Assumes nothing.
use Rattle.read_changes.specs.Changes.{head_fault}
use Rattle.read_changes.proofs.head_fault.Goals as goal

pub returns : goal.returns
unfolding head_fault
returns c = simp (c.check_number.ensures, c.check_count-g.ensures, c.minus_or_zero.ensures, c.minus_or_zero-2.ensures, c.minus_or_zero-3.ensures)
