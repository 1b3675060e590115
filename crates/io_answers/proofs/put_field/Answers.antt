-- `io_answers::put_field` meets its contract. Assumes nothing.
use Rattle.put_bytes.proofs.Putting.{put_then}
use Rattle.io_answers.proofs.put_field.Goals as goal

pub returns : goal.returns
returns c = put_then c.put_number-p.ensures c.put8.ensures
