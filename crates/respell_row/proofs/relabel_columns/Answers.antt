-- `respell_row::relabel_columns` meets its contract. Assumes nothing.
use Rattle.respell_row.proofs.Steps.{columns_bare, columns_third}
use lib.ListN.{length}
use native.Mathlib.Omega.{arith}
use mathlib.Core.Path.{◌∙◌}
use Rattle.respell_row.proofs.relabel_columns.Goals as goal

pub returns-then-row-at : goal.returns-then-row-at
returns-then-row-at c = columns_bare c.args.machine.now c.args.row.now c.args.out.now (omega arith) c.args.end c.args.at c.if-row-at.true c.first_of.ensures c.put_run-to.ensures c.end_bare.ensures

pub returns : goal.returns
returns c = c.relabel_third.ensures ∙ columns_third c.args.machine.now c.args.row.now (length c.args.out.now) c.args.end c.args.at c.if-row-at.false
