-- `read_tail::read_charge` meets its contract: no `^`, or a number that fits, with its limit. Assumes nothing.
use borrow.Author.Tests.{not-true, not-false}
use mathlib.Core.Path.{sym, ◌∙◌}
use native.Mathlib.Omega.{arith}
use Rattle.read_tail.proofs.Measures.{number_fits}
use Rattle.read_tail.specs.Charges.{charge_of}
use Rattle.read_tail.proofs.read_charge.Goals as goal

pub returns-then-not-begins_with : goal.returns-then-not-begins_with
unfolding charge_of
returns-then-not-begins_with c = rw (sym c.begins_with.ensures ∙ not-true _ c.if-not-begins_with.true-raw)

pub overflow_add-result : goal.overflow_add-result
overflow_add-result c = omega (arith, number_fits c.args.s.now 1 c.rest.ensures c.read_number-n.ensures)

pub returns : goal.returns
unfolding charge_of
returns c = rw (sym c.begins_with.ensures ∙ not-false _ c.if-not-begins_with.false-raw, c.check_number-fault.ensures, c.minus_or_zero-2.ensures, c.minus_or_zero.ensures, c.read_number-n.ensures, c.rest.ensures)
