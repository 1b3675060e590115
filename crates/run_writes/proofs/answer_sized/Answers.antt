-- `run_writes::answer_sized` meets its contract. Assumes nothing.
use Rattle.run_writes.proofs.Answering.{written_sized}
use mathlib.Core.Path.{sym, refl}
use lib.ListN.{length}
use lib.Seq.{length-take-le}
use borrow.Author.Rules.{rules}
use Rattle.run_writes.proofs.answer_sized.Goals as goal

pub slice_bounds-answer_hex-end-2 : goal.slice_bounds-answer_hex-end-2
slice_bounds-answer_hex-end-2 c = sym (length-take-le _ _ (search rules))

pub returns : goal.returns
returns c =
    let a = c.args in
    written_sized a.task a.machine.now a.asked.now (length a.table.now) c.behind_size-digits.ensures c.size_in-bytes.ensures (search rules) c.answer_hex.ensures refl
