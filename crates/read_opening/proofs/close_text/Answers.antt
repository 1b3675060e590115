-- `read_opening::close_text` meets its contract: rewritten by its calls for the length's limit and the two steps. Assumes nothing.
use Rattle.read_opening.specs.Enclosed.{enclosed_of}
use Rattle.read_opening.proofs.close_text.Goals as goal

pub returns : goal.returns
unfolding enclosed_of
returns c = rw (c.advance-2.ensures, c.advance.ensures, c.check_length-fault.ensures, c.minus_or_zero-2.ensures, c.minus_or_zero.ensures)
