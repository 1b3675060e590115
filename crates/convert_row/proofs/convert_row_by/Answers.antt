-- `convert_row::convert_row_by` meets its contract. Assumes nothing.
use Rattle.faults.specs.declared.Why.TheVariants.{NoTable}
use mathlib.Core.Path.{sym, ◌∙◌}
use borrow.Author.Tests.{eqb-true, eqb-false}
use lib.ListN.{length}
use Rattle.answers.proofs.Behind.{refused_is}
use Rattle.convert_row.proofs.Steps.{converted_bad, converted_none, converted_held}
use Rattle.convert_row.proofs.convert_row_by.Goals as goal

pub returns-in_default : goal.returns-in_default
returns-in_default c = refused_is (length c.args.out.now) NoTable 0 c.refuse.ensures c.clear.ensures ∙ converted_bad c.args.machine.now c.args.stored.now c.args.out.now c.read_head.ensures c.in_default.is

pub returns-then-is_no_table : goal.returns-then-is_no_table
returns-then-is_no_table c = converted_none c.args.machine.now c.args.stored.now c.args.out.now c.read_head.ensures c.in-Ok.is c.rest.ensures c.convert_behind-table.ensures (eqb-true _ 9 (sym c.is_no_table.ensures ∙ c.if-is_no_table.true)) c.clear-then-is_no_table.ensures c.refuse-then-is_no_table.ensures

pub returns : goal.returns
returns c = c.end_row.ensures ∙ converted_held c.args.machine.now c.args.stored.now c.args.out.now c.read_head.ensures c.in-Ok.is c.rest.ensures c.convert_behind-table.ensures (eqb-false _ 9 (sym c.is_no_table.ensures ∙ c.if-is_no_table.false)) c.third_at-at.ensures
