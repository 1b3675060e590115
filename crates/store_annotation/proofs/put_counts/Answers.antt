-- `store_annotation::put_counts` meets its contract: one field after the other. Assumes nothing.
use Rattle.store_annotation.specs.Records.{count_bytes}
use Rattle.put_bytes.proofs.Putting.{put_then}
use Rattle.store_annotation.proofs.put_counts.Goals as goal

pub returns : goal.returns
unfolding count_bytes
returns c = put_then c.put_le-p.ensures (put_then c.put_le-q.ensures (put_then c.put_le-r.ensures (put_then c.put_le-s.ensures (put_then c.put_le-t.ensures c.put8.ensures))))
