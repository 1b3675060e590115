-- `scan_line::Progress::over` meets its contract: the loop is the walk. Assumes nothing.
use Rattle.scan_line.proofs.Walks.{stays_few, stays_dead, stays_deep, stays_full, begin, stopped, turn, ends}
use native.Mathlib.Omega.{arith}
use Rattle.scan_line.proofs.Progress.over.Goals as goal
use Rattle.scan_line.proofs.Progress.over.Goals.{then-self-ge-STATES-via-then-self-ge-STATES, then-self-ge-STATES-via-else-self-ge-STATES+then-self, then-self-ge-STATES-via-else-self-ge-STATES+else-self+then-self-part}

pub returns-then-machine-lt-SIZE : goal.returns-then-machine-lt-SIZE
returns-then-machine-lt-SIZE c = stays_few _ _ _ c.if-machine-lt-SIZE.true

pub returns-then-self-ge-STATES : goal.returns-then-self-ge-STATES
returns-then-self-ge-STATES c =
    let l = c.if-machine-lt-SIZE.false in
    elim c.then-self-ge-STATES.branch [
      | then-self-ge-STATES-via-then-self-ge-STATES w ↦ stays_dead _ _ _ l w.if-self-ge-STATES.true
      | then-self-ge-STATES-via-else-self-ge-STATES+then-self w ↦ stays_deep _ _ _ l w.if-self-ge-STATES.false w.if-self.true
      | then-self-ge-STATES-via-else-self-ge-STATES+else-self+then-self-part w ↦ stays_full _ _ _ l w.if-self-ge-STATES.false w.if-self.false (omega (arith, w.if-self-part.true))
    ]

pub loop-i-init : goal.loop-i-init
loop-i-init c = begin c.if-machine-lt-SIZE.false c.if-self-ge-STATES.false c.if-self.false (omega arith)

pub step-s-requires : goal.step-s-requires
step-s-requires c =
    let w = c.loop-i.invariant in
    (w.long, (w.small, omega (arith, w.below, w.room, c.loop-i-test.true)))

pub returns-then-q-ge-STATES : goal.returns-then-q-ge-STATES
returns-then-q-ge-STATES c = stopped c.loop-i.invariant c.loop-i-test.true c.step-s.ensures c.if-q-ge-STATES.true

pub loop-i-preserved : goal.loop-i-preserved
loop-i-preserved c = turn c.loop-i.invariant c.loop-i-test.true c.step-s.ensures c.if-q-ge-STATES.false

pub returns : goal.returns
returns c = ends c.loop-i.invariant c.loop-i-test.false
