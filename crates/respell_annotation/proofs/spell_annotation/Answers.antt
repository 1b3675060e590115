-- `respell_annotation::spell_annotation` meets its contract: as it stands, or part by part. Assumes nothing.
use Rattle.respell_annotation.proofs.Steps.{put_kept, put_anew}
use Rattle.respell_annotation.proofs.spell_annotation.Goals as goal

pub returns-then-is_kept : goal.returns-then-is_kept
returns-then-is_kept c =
    put_kept _ _ c.rest-s1.ensures c.rest.ensures c.rest-2.ensures c.saturating_sub-len.ensures
    c.rest-3.ensures c.is_free-free.ensures c.first_of.ensures
    c.is_kept.ensures c.if-is_kept.true
    c.first_of-then-is_kept.ensures c.put_run-end.ensures

pub returns-else-is_kept : goal.returns-else-is_kept
returns-else-is_kept c =
    put_anew _ _ c.rest-s1.ensures c.rest.ensures c.rest-2.ensures
    c.saturating_sub-len.ensures c.rest-3.ensures c.is_free-free.ensures c.first_of.ensures
    c.is_kept.ensures c.if-is_kept.false
    c.spell_parts-end.ensures
