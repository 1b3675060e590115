-- `store_annotation::store` meets its contract: one part after the other. Assumes nothing.
use Rattle.store_annotation.proofs.Steps.{annotation_stored}
use Rattle.store_sections.proofs.Events.{ran_length}
use Rattle.put_bytes.proofs.Putting.{put_length}
use mathlib.Core.Path.{◌∙◌}
use Rattle.store_annotation.proofs.store.Goals as goal

pub shape_of-out : goal.shape_of-out
shape_of-out c = put_length c.put_annotation-next.ensures ∙ ran_length c.store_adduct-i.ensures.ran ∙ put_length c.store_isotopes-y.ensures.put ∙ ran_length c.store_changes-l.ensures.ran ∙ ran_length c.put_ion-c1.ensures

pub returns : goal.returns
returns c =
    annotation_stored c.rest.ensures c.put_ion-c1.ensures c.rest-s1.ensures c.store_changes-l.ensures
    c.rest-s2.ensures c.cursor.ensures c.store_isotopes-y.ensures c.with_cursor-c3.ensures
    c.rest-2.ensures c.store_adduct-i.ensures c.cursor-2.ensures c.put_annotation-next.ensures
    c.with_cursor.ensures c.rest-3.ensures c.rest-4.ensures c.minus_or_zero.ensures
