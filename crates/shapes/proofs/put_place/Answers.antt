-- `shapes::put_place` meets its contract. Assumes nothing.
use Rattle.put_bytes.proofs.Putting.{put_then}
use Rattle.shapes.proofs.put_place.Goals as goal

pub returns : goal.returns
returns c = put_then c.put_number-blank.ensures (put_then c.put8-behind.ensures (put_then c.put_number-end.ensures c.put8.ensures))
