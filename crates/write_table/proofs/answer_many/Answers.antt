-- `write_table::answer_many` meets its contract: the line is what stands in the buffer. Assumes nothing.
use Rattle.rules.specs.Largest.{max_any_table}
use Rattle.write_table.proofs.Found.{found_long, found_within, printed_past, printed_within, printed_first}
use Rattle.write_table.specs.Writings.{longest_printed}
use Rattle.read_line.specs.Back.{zeros}
use Rattle.print_table.specs.Tables.{printed_table}
use native.Mathlib.Omega.{arith}
use mathlib.Core.Path.{◌∙◌}
use lib.ListN.{length}
use Rattle.write_table.proofs.answer_many.Goals as goal

pub returns-then-n-gt-LINE : goal.returns-then-n-gt-LINE
returns-then-n-gt-LINE c =
    let a = c.args in
    found_long a.wanted a.machine.now longest_printed (zeros max_any_table) (printed_table a.table.now) a.table.now (length a.out.now)
    (printed_past {most = longest_printed} c.print_table-n.ensures (omega arith) c.if-n-gt-LINE.true) c.clear.ensures c.refuse.ensures

pub returns : goal.returns
returns c =
    let a = c.args in
    let printed = c.print_table-n.ensures in
    let not_past = c.if-n-gt-LINE.false in
    found_within a.wanted a.machine.now longest_printed (zeros max_any_table) (printed_table a.table.now) a.table.now (length a.out.now)
    (c.first_of-line.ensures ∙ printed_first {most = longest_printed} printed (omega arith) not_past)
    (printed_within {most = longest_printed} printed (omega arith) not_past) c.edition_for-edition.ensures c.reads_to-held.ensures c.finish.ensures
