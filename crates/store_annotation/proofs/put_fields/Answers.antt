-- `store_annotation::put_fields` meets its contract: one group of fields after the other. Assumes nothing.
use Rattle.put_bytes.proofs.Putting.{put_then}
use Rattle.store_annotation.proofs.put_fields.Goals as goal

pub returns : goal.returns
returns c = put_then (put_then c.put_front-p.ensures (put_then c.put_tail-q.ensures c.put_counts-r.ensures)) c.put_le.ensures
