-- `write_table::answer_by` meets its contract: small buffers where they suffice, else large ones. Assumes nothing.
use Rattle.write_table.proofs.Found.{found_within, printed_past, printed_within, printed_first, answered_many, answered_large, answered_few}
use Rattle.read_line.specs.Back.{few, zeros}
use Rattle.print_table.specs.Tables.{printed_table}
use native.Mathlib.Omega.{arith}
use mathlib.Core.Path.{◌∙◌}
use lib.ListN.{length}
use Rattle.write_table.proofs.answer_by.Goals as goal

pub returns-then-n-gt-FEW : goal.returns-then-n-gt-FEW
returns-then-n-gt-FEW c =
    let a = c.args in
    answered_many a.wanted a.machine.now a.table.now (length a.out.now)
    (printed_past {most = few} c.print_table-n.ensures (omega arith) c.if-n-gt-FEW.true) c.answer_many.ensures

pub returns-then-table-gt-FEW : goal.returns-then-table-gt-FEW
returns-then-table-gt-FEW c =
    let a = c.args in
    answered_large a.wanted a.machine.now a.table.now (length a.out.now)
    (printed_within {most = few} c.print_table-n.ensures (omega arith) c.if-n-gt-FEW.false) c.if-table-gt-FEW.true c.answer_many-then-table-gt-FEW.ensures

pub returns : goal.returns
returns c =
    let a = c.args in
    let printed = c.print_table-n.ensures in
    let not_past = c.if-n-gt-FEW.false in
    let within = printed_within {most = few} printed (omega arith) not_past in
    answered_few a.wanted a.machine.now a.table.now (length a.out.now) within c.if-table-gt-FEW.false
    (found_within a.wanted a.machine.now few (zeros few) (printed_table a.table.now) a.table.now (length a.out.now)
    (c.first_of-line.ensures ∙ printed_first {most = few} printed (omega arith) not_past) within c.edition_for-edition.ensures c.reads_to_few-held.ensures c.finish.ensures)
