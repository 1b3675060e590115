-- `io_lines::refill` meets its contract. Assumes nothing.
use Rattle.io_lines.proofs.Fills.{refilled}
use Rattle.io_lines.specs.Refills.{stops}
use mathlib.Core.Path.{refl}
use native.Mathlib.Omega.{arith}
use Rattle.io_lines.proofs.refill.Goals as goal

pub returns-then-is_err : goal.returns-then-is_err
returns-then-is_err c = stops refl _ c.stopped.ensures

pub returns : goal.returns
returns c =
    let a = c.args in
    refilled a.buf.now a.s (omega arith) c.behind.ensures c.keep-held.ensures _ c.read_behind-came.ensures c.after.ensures
