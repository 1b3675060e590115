-- `scan_line::Progress::verdict` meets its contract. Assumes nothing.
use Rattle.scan_line.proofs.Scans.{verdict_few, verdict_fine, verdict_short, verdict_stray}
use mathlib.Core.Path.{sym, ◌∙◌}
use Rattle.scan_line.proofs.Progress.verdict.Goals as goal

pub returns-then-machine-lt-SIZE : goal.returns-then-machine-lt-SIZE
returns-then-machine-lt-SIZE c = sym (verdict_few _ _ c.if-machine-lt-SIZE.true)

pub returns-then-q-ge-STATES : goal.returns-then-q-ge-STATES
returns-then-q-ge-STATES c = sym (verdict_stray _ _ c.if-machine-lt-SIZE.false c.if-q-ge-STATES.true)

pub returns-then-ends : goal.returns-then-ends
returns-then-ends c = sym (verdict_fine _ _ c.if-machine-lt-SIZE.false c.if-q-ge-STATES.false (sym c.ends.ensures ∙ c.if-ends.true))

pub returns-else-ends : goal.returns-else-ends
returns-else-ends c = sym (verdict_short _ _ c.if-machine-lt-SIZE.false c.if-q-ge-STATES.false (sym c.ends.ensures ∙ c.if-ends.false))
