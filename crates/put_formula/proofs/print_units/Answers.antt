-- `put_formula::print_units` meets its contract: in its loop the records left to print make the whole. Assumes nothing.
use Rattle.put_formula.proofs.UnitLoop.{chain_begins, chain_turn, chain_ends}
use Rattle.put_formula.specs.Preferred.{preferred_unit}
use Rattle.put_formula.specs.Records.{stored_unit}
use Rattle.rules.specs.Layout.{unit_width}
use mathlib.Core.Path.{ap}
use native.Mathlib.Omega.{arith}
use Rattle.put_formula.proofs.print_units.Goals as goal

pub loop-init : goal.loop-init
loop-init c = chain_begins (λ r. preferred_unit (stored_unit r)) (λ r. unit_width) _ _ (omega arith) (omega arith)

pub loop-preserved : goal.loop-preserved
loop-preserved c = chain_turn (λ r. preferred_unit (stored_unit r)) (λ r. unit_width) _ c.loop.left.now c.loop.invariant c.loop-test.true c.put_unit-to.ensures (ap preferred_unit c.stored_unit.ensures) c.rest-left.ensures

pub returns : goal.returns
returns c = chain_ends (λ r. preferred_unit (stored_unit r)) (λ r. unit_width) _ c.loop.left.now c.loop.invariant c.loop-test.false
