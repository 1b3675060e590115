-- `read_row::read_row_by` meets its contract. Assumes nothing.
use Rattle.faults.specs.declared.Why.TheVariants.{LineTooLong, BadMz}
use mathlib.Core.Path.{◌∙◌}
use Rattle.answers.proofs.Behind.{refused_is}
use Rattle.read_row.proofs.Steps.{row_long, row_bad, row_good}
use lib.ListN.{length}
use Rattle.read_row.proofs.read_row_by.Goals as goal

pub returns-then-row-gt-MAX_ROW : goal.returns-then-row-gt-MAX_ROW
returns-then-row-gt-MAX_ROW c = refused_is (length c.args.out.now) LineTooLong _ c.refuse.ensures c.clear.ensures ∙ row_long c.args.machine.now c.args.row.now (length c.args.out.now) c.if-row-gt-MAX_ROW.true

pub returns-in_default : goal.returns-in_default
returns-in_default c = refused_is (length c.args.out.now) BadMz _ c.refuse-in_default.ensures c.clear-in_default.ensures ∙ row_bad c.args.machine.now c.args.row.now (length c.args.out.now) c.if-row-gt-MAX_ROW.false c.read_column.ensures c.in_default.is

pub returns : goal.returns
returns c = c.read_intensity.ensures ∙ row_good c.args.machine.now c.args.row.now (length c.args.out.now) c.if-row-gt-MAX_ROW.false c.read_column.ensures c.in-Ok.is
