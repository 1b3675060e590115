-- `sort_changes::put_key` meets its contract: preferred units, or the bytes as they stand. Assumes nothing.
use Rattle.put_bytes.proofs.Putting.{put_as}
use Rattle.sort_changes.proofs.Steps.{key_units, key_rest}
use Rattle.sort_changes.proofs.put_key.Goals as goal

pub returns-in-Formula : goal.returns-in-Formula
returns-in-Formula c = put_as c.put_preferred.ensures (key_units _ c.args.x c.in-Formula.is c.rest.ensures)

pub returns-in-Name : goal.returns-in-Name
returns-in-Name c = put_as c.put_run.ensures (key_rest _ c.args.x c.in-Name.is c.minus_or_zero.ensures c.part.ensures)
