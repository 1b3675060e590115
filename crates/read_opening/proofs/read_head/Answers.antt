-- `read_opening::read_head` meets its contract: the count fits the part, then rewritten by its calls. Assumes nothing.
use native.Mathlib.Omega.{arith}
use Rattle.read_opening.proofs.Measures.{head_fits}
use Rattle.read_opening.specs.Heads.{head_of}
use Rattle.read_opening.proofs.read_head.Goals as goal

pub overflow_add-result : goal.overflow_add-result
overflow_add-result c = omega (arith, head_fits c.args.s.now c.rest.ensures c.read_number-n.ensures)

pub returns : goal.returns
unfolding head_of
returns c = rw (c.sign.ensures, c.or_one.ensures, c.read_number-n.ensures, c.rest.ensures)
