-- `store_annotation::put_annotation` meets its contract: the fields fill the record, of which as much is put as the edition has. Assumes nothing.
use mathlib.Core.Path.{ap₂, ◌∙◌}
use lib.ListN.{take}
use Rattle.layout.specs.Editions.{edition_of}
use Rattle.put_bytes.proofs.Putting.{put_as, put_over}
use Rattle.store_annotation.proofs.Steps.{record_long, record_cut}
use Rattle.store_annotation.proofs.put_annotation.Goals as goal

pub returns : goal.returns
returns c =
    put_as c.put_run.ensures
    (c.first_of.ensures ∙ ap₂ take c.annotation_size.ensures (put_over c.put_fields.ensures (record_long _ _ _))
    ∙ record_cut (edition_of c.args.edition) _ _ _)
