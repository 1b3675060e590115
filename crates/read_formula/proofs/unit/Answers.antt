-- `read_formula::unit` meets its contract: the span, and the element at its symbol. Assumes nothing.
use Rattle.read_formula.proofs.Measures.{unit_is}
use Rattle.read_formula.proofs.unit.Goals as goal

pub returns : goal.returns
returns c = unit_is c.args.s.now c.unit_span-u.ensures c.rest.ensures c.read_element-e.ensures
