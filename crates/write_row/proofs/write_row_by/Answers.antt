-- `write_row::write_row_by` meets its contract. Assumes nothing.
use Rattle.faults.specs.declared.Why.TheVariants.{NoTable}
use mathlib.Core.Path.{◌∙◌}
use Rattle.answers.proofs.Behind.{refused_is}
use Rattle.write_row.proofs.Steps.{written_bad}
use Rattle.write_row.proofs.Wrote.{row_written}
use lib.ListN.{length}
use Rattle.write_row.proofs.write_row_by.Goals as goal

pub returns-in_default : goal.returns-in_default
returns-in_default c = refused_is (length c.args.out.now) NoTable _ c.refuse.ensures c.clear.ensures ∙ written_bad c.args.machine.now c.args.stored.now (length c.args.out.now) c.read_head.ensures c.in_default.is

pub returns : goal.returns
returns c = c.finish_row.ensures ∙ row_written c.args.machine.now c.args.stored.now c.args.out.now c.read_head.ensures c.in-Ok.is c.put_columns-to.ensures c.rest.ensures c.plus.ensures c.write_behind-line.ensures
