-- `read_formula::numbers_fault` meets its contract: the three checks, with their places, rewritten. Assumes nothing.
use Rattle.read_formula.specs.Units.{numbers_fault}
use Rattle.read_formula.proofs.numbers_fault.Goals as goal

pub returns : goal.returns
unfolding numbers_fault
returns c = simp (c.check_number.ensures, c.check_number-h.ensures, c.check_count-g.ensures, c.minus_or_zero.ensures, c.minus_or_zero-2.ensures, c.minus_or_zero-3.ensures, c.minus_or_zero-4.ensures, c.minus_or_zero-5.ensures)
