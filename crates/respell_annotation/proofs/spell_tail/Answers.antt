-- `respell_annotation::spell_tail` meets its contract: as it stands, or with a 0 before the point. Assumes nothing.
use Rattle.respell_annotation.proofs.Steps.{tail_kept, tail_filled}
use Rattle.respell_annotation.proofs.spell_tail.Goals as goal

pub returns-then-c : goal.returns-then-c
returns-then-c c =
    tail_filled _ _ c.if-c.true c.saturating_sub.ensures c.saturating_sub-at.ensures
    c.first_of.ensures c.put_run-a.ensures c.put8-b.ensures c.rest.ensures c.put_run.ensures

pub returns-else-c : goal.returns-else-c
returns-else-c c = tail_kept _ _ c.if-c.false c.put_run-else-c.ensures
