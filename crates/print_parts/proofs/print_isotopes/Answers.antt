-- `print_parts::print_isotopes` meets its contract. Assumes nothing.
use native.Mathlib.Omega.{arith}
use mathlib.Core.Path.{refl}
use Rattle.rules.specs.Layout.{isotope_width}
use Rattle.print_parts.specs.Isotopes.{isotope_printed}
use Rattle.put_formula.proofs.UnitLoop.{chain_begins, chain_turn, chain_ends}
use Rattle.print_parts.proofs.print_isotopes.Goals as goal

pub loop-init : goal.loop-init
loop-init c = chain_begins isotope_printed (λ r. isotope_width) _ _ (omega arith) (omega arith)

pub loop-preserved : goal.loop-preserved
loop-preserved c = chain_turn isotope_printed (λ r. isotope_width) _ c.loop.left.now c.loop.invariant c.loop-test.true c.print_isotope-at.ensures refl c.rest-left.ensures

pub returns : goal.returns
returns c = chain_ends isotope_printed (λ r. isotope_width) _ c.loop.left.now c.loop.invariant c.loop-test.false
