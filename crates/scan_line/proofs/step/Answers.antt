-- `scan_line::step` meets its contract: the table in a state that is not deep, and else what `step_inside` promises. Assumes nothing.
use native.Mathlib.Omega.{arith}
use Rattle.scan_line.proofs.Moves.{flat_step, before_deep, behind_deep}
use Rattle.scan_line.proofs.step.Goals as goal

pub returns-then-q-lt-DEEPS : goal.returns-then-q-lt-DEEPS
returns-then-q-lt-DEEPS c =
    let a = c.args in
    flat_step a.machine.now a.q a.d a.b (before_deep a.q c.if-q-lt-DEEPS.true) c.next.ensures

pub returns : goal.returns
returns c =
    let a = c.args in
    flat_step a.machine.now a.q a.d a.b (behind_deep a.q (omega (arith, c.if-q-lt-FLATS.false))) c.next-2.ensures
