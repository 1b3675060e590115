-- `store_annotation::put_tail` meets its contract: one field after the other. Assumes nothing.
use mathlib.Core.Path.{ap, ◌∙◌}
use Rattle.rules.specs.Stored.{little}
use Rattle.put_bytes.proofs.Putting.{put_then, put_as}
use Rattle.store_annotation.specs.Records.{signed_of, tail_bytes}
use Rattle.store_annotation.proofs.put_tail.Goals as goal

pub returns : goal.returns
unfolding tail_bytes
returns c =
    put_then c.put_le-p.ensures (put_then c.put_kind-q.ensures
    (put_then c.put_kind-r.ensures (put_then c.put8-s.ensures
    (put_then (put_as c.put_le-t.ensures (ap (little 8) (c.signed.ensures ∙ ap (signed_of _) c.value.ensures)))
    (put_as c.put_le.ensures (ap (little 4) c.value-2.ensures))))))
