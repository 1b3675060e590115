-- `scan_line::step_inside` meets its contract: one law for each test. Assumes nothing.
use native.Mathlib.Omega.{arith}
use Rattle.scan_line.proofs.Moves.{opened, closed, deep_step, is_deep}
use Rattle.scan_line.proofs.step_inside.Goals as goal

pub returns-then-b-eq91 : goal.returns-then-b-eq91
returns-then-b-eq91 c = let a = c.args in opened a.machine.now a.q a.d a.b (is_deep a.q (omega arith) (omega arith)) c.if-b-eq91.true

pub returns-then-b-ne93 : goal.returns-then-b-ne93
returns-then-b-ne93 c =
    let a = c.args in
    deep_step a.machine.now a.q a.d a.b (is_deep a.q (omega arith) (omega arith)) c.if-b-eq91.false (λ e h. c.if-b-ne93.true e) c.next.ensures

pub returns-then-d-gt0 : goal.returns-then-d-gt0
returns-then-d-gt0 c =
    let a = c.args in
    closed a.machine.now a.q a.d a.b (is_deep a.q (omega arith) (omega arith)) c.if-b-eq91.false c.if-b-ne93.false c.if-d-gt0.true

pub returns : goal.returns
returns c =
    let a = c.args in
    deep_step a.machine.now a.q a.d a.b (is_deep a.q (omega arith) (omega arith)) c.if-b-eq91.false (λ e h. omega (arith, c.if-d-gt0.false)) c.next-2.ensures
