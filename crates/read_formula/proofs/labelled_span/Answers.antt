-- `read_formula::labelled_span` meets its contract: each sum fits the part, and one lemma takes the calls. Assumes nothing.
use native.Mathlib.Omega.{arith}
use Rattle.read_formula.proofs.Measures.{nucleons_fit, symbol_fits, count_fits, labelled_is}
use Rattle.read_formula.proofs.labelled_span.Goals as goal

pub overflow_add-p : goal.overflow_add-p
overflow_add-p c = omega (arith, nucleons_fit c.args.s.now c.rest.ensures c.read_number-a.ensures)

pub overflow_add-q : goal.overflow_add-q
overflow_add-q c = omega (arith, symbol_fits c.args.s.now c.rest.ensures c.read_number-a.ensures c.rest-2.ensures c.symbol_len.ensures)

pub overflow_add-end : goal.overflow_add-end
overflow_add-end c =
    omega (
      arith,
      count_fits c.args.s.now c.rest.ensures c.read_number-a.ensures c.rest-2.ensures
          c.symbol_len.ensures c.rest-3.ensures c.read_number-n.ensures,
    )

pub returns : goal.returns
returns c = labelled_is c.args.s.now c.rest.ensures c.read_number-a.ensures c.rest-2.ensures c.symbol_len.ensures c.rest-3.ensures c.read_number-n.ensures c.with_bracket.ensures
