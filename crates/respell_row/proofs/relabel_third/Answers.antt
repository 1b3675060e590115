-- `respell_row::relabel_third` meets its contract. Assumes nothing.
use Rattle.respell_row.proofs.Steps.{third_is}
use native.Mathlib.Omega.{arith}
use mathlib.Core.Path.{◌∙◌}
use Rattle.respell_row.proofs.relabel_third.Goals as goal

pub returns : goal.returns
returns c = c.finish_line.ensures ∙ third_is c.args.machine.now c.args.row.now c.args.out.now (omega arith) c.args.at c.rest-third.ensures c.first_of.ensures c.put_run-to.ensures c.relabel_behind-line.ensures
