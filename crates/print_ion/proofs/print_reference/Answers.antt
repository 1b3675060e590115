-- `print_ion::print_reference` meets its contract: `r` and brackets, one put after the other. Assumes nothing.
use Rattle.put_bytes.proofs.Putting.{put_then}
use Rattle.print_ion.proofs.print_reference.Goals as goal

pub returns : goal.returns
returns c = put_then c.put8-a.ensures c.put_enclosed.ensures
