-- `put_formula::put_preferred` meets its contract: in its loop the units left to copy make the whole. Assumes nothing.
use Rattle.put_formula.proofs.UnitLoop.{chain_begins, chain_turn, chain_ends}
use Rattle.put_formula.proofs.TextParts.{copied, span_size}
use Rattle.put_formula.specs.Preferred.{kept_unit}
use Rattle.read_formula.specs.Formulas.{unit_size}
use lib.ListN.{drop}
use mathlib.Core.Path.{ap, ◌∙◌}
use Prim.Native.Nat.{ℕ}
use native.Mathlib.Omega.{arith}
use Rattle.put_formula.proofs.put_preferred.Goals as goal

pub loop-init : goal.loop-init
loop-init c = chain_begins kept_unit unit_size _ _ (omega arith) (omega arith)

pub loop-preserved : goal.loop-preserved
loop-preserved c =
    let left = c.loop.left.now in
    let u = c.unit_span-u.ensures in
    chain_turn kept_unit unit_size _ left c.loop.invariant c.loop-test.true c.put_run-to.ensures (copied left u c.first_of.ensures c.kept.ensures)
    (c.rest-left.ensures ∙ ap (λ (m : ℕ). drop m left) (span_size left u))

pub returns : goal.returns
returns c = chain_ends kept_unit unit_size _ c.loop.left.now c.loop.invariant c.loop-test.false
