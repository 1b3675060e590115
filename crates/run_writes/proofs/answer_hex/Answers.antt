-- `run_writes::answer_hex` meets its contract: by whether all are digits. Assumes nothing.
use mathlib.Core.Path.{sym, ◌∙◌}
use lib.ListN.{length}
use borrow.Author.Tests.{not-true, not-false}
use Rattle.run_writes.proofs.Cut.{put_front}
use Rattle.run_writes.proofs.Answering.{hex_refused, hex_written}
use Rattle.run_writes.proofs.answer_hex.Goals as goal

pub returns-then-not-is_hex : goal.returns-then-not-is_hex
returns-then-not-is_hex c =
    let a = c.args in
    hex_refused a.task a.machine.now a.digits.now (length a.table.now) (length a.line.now) (sym c.is_hex.ensures ∙ not-true _ c.if-not-is_hex.true-raw)
    c.clear.ensures c.refuse.ensures

pub returns : goal.returns
returns c =
    let a = c.args in
    hex_written a.task a.machine.now a.digits.now (length a.table.now) (length a.line.now) (sym c.is_hex.ensures ∙ not-false _ c.if-not-is_hex.false-raw)
    (put_front c.put_unhexed-n.ensures c.first_of.ensures) c.answer_as.ensures
