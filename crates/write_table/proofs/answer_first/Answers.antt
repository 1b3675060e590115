-- `write_table::answer_first` meets its contract: by the lent machine, or by one that was made. Assumes nothing.
use lib.ListN.{length}
use Rattle.write_table.proofs.Found.{judged_lent, judged_first_lem}
use Rattle.write_table.proofs.answer_first.Goals as goal

pub returns-then-not-takes_letters : goal.returns-then-not-takes_letters
returns-then-not-takes_letters c =
    let a = c.args in
    judged_lent a.wanted a.machine.now a.table.now (length a.out.now) c.takes_letters.ensures c.if-not-takes_letters.true c.answer_by.ensures

pub returns : goal.returns
returns c =
    let a = c.args in
    judged_first_lem a.wanted a.machine.now a.table.now (length a.out.now) c.takes_letters.ensures c.if-not-takes_letters.false
    c.machine-first.ensures c.answer_by-2.ensures
