-- `put_formula::put_records` meets its contract: in its loop the units left to store make the whole. Assumes nothing.
use Rattle.put_formula.proofs.UnitLoop.{chain_begins, chain_turn, chain_ends}
use Rattle.put_formula.specs.Records.{record_of}
use Rattle.read_formula.specs.Formulas.{unit_size}
use Rattle.read_formula.specs.Units.{unit_of}
use Rattle.read_formula.specs.declared.UnitRead.{UnitRead}
use lib.ListN.{drop}
use mathlib.Core.Path.{ap, ◌∙◌}
use native.Mathlib.Omega.{arith}
use Rattle.put_formula.proofs.put_records.Goals as goal

pub loop-init : goal.loop-init
loop-init c = chain_begins (λ r. record_of (unit_of r)) unit_size _ _ (omega arith) (omega arith)

pub loop-preserved : goal.loop-preserved
loop-preserved c =
    let left = c.loop.left.now in
    chain_turn (λ r. record_of (unit_of r)) unit_size _ left c.loop.invariant c.loop-test.true c.put_record-to.ensures (ap record_of c.unit-u.ensures)
    (c.rest-left.ensures ∙ ap (λ (u : UnitRead). drop u.len left) c.unit-u.ensures)

pub returns : goal.returns
returns c = chain_ends (λ r. record_of (unit_of r)) unit_size _ c.loop.left.now c.loop.invariant c.loop-test.false
