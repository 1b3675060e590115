-- `store_annotation::put_kind` meets its contract. Assumes nothing.
use mathlib.Core.Path.{ap}
use Rattle.rules.specs.Stored.{little}
use Rattle.put_bytes.proofs.Putting.{put_then, put_as}
use Rattle.store_annotation.proofs.put_kind.Goals as goal

pub returns : goal.returns
returns c = put_then (put_as c.put_le-q.ensures (ap (little 1) c.from.ensures)) (put_as c.put_le.ensures (ap (little 1) c.places.ensures))
