-- `read_formula::plain_span` meets its contract: symbol and count fit the part, and one lemma takes the calls. Assumes nothing.
use native.Mathlib.Omega.{arith}
use Rattle.read_formula.proofs.Measures.{plain_fits, plain_is}
use Rattle.read_formula.proofs.plain_span.Goals as goal

pub overflow_add-result : goal.overflow_add-result
overflow_add-result c = omega (arith, plain_fits c.args.s.now c.symbol_len-q.ensures c.rest.ensures c.read_number-n.ensures)

pub returns : goal.returns
returns c = plain_is c.args.s.now c.symbol_len-q.ensures c.rest.ensures c.read_number-n.ensures c.or_one.ensures
