-- `respell_annotation::spell_parts` meets its contract: one part after the other. Assumes nothing.
use mathlib.Core.Path.{◌∙◌}
use Rattle.put_bytes.proofs.Putting.{put_length}
use Rattle.respell_annotation.proofs.Steps.{parts_put}
use Rattle.respell_annotation.proofs.spell_parts.Goals as goal

pub shape_of-out : goal.shape_of-out
shape_of-out c =
    put_length c.spell_tail.ensures ∙ put_length c.spell_adduct-a2.ensures
    ∙ put_length c.spell_isotopes-y.ensures.put ∙ put_length c.spell_changes-l.ensures.put
    ∙ put_length c.spell_ion-a1.ensures
    ∙ put_length c.put_run-a0.ensures

pub returns : goal.returns
returns c =
    parts_put _ _ c.first_of.ensures c.put_run-a0.ensures
    c.rest.ensures c.spell_ion-a1.ensures
    c.rest-s1.ensures c.spell_changes-l.ensures
    c.rest-s2.ensures c.spell_isotopes-y.ensures
    c.rest-2.ensures c.spell_adduct-a2.ensures c.rest-3.ensures
    c.first_of-2.ensures c.spell_tail.ensures
