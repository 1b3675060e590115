-- `print_table::print_adduct` meets its contract: none, or the items between `[M` and `]`. Assumes nothing.
use Rattle.print_table.proofs.Steps.{adduct_none, adduct_some}
use native.Mathlib.Omega.{arith}
use Rattle.print_table.proofs.print_adduct.Goals as goal

pub returns-then-n-eq0 : goal.returns-then-n-eq0
returns-then-n-eq0 c = adduct_none c.args.n c.args.x.now c.args.u.now c.args.t.now c.if-n-eq0.true (omega arith) (omega arith)

pub returns : goal.returns
returns c = adduct_some c.args.n c.args.x.now c.args.u.now c.args.t.now c.if-n-eq0.false c.put_run-a.ensures c.print_changes-r.ensures c.put8-b.ensures
