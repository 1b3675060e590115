-- `run_program::join` meets its contract. Assumes nothing.
use Rattle.put_bytes.proofs.Putting.{put_then}
use Rattle.run_program.proofs.join.Goals as goal

pub returns : goal.returns
returns c = put_then c.put_run-at.ensures c.put_run.ensures
