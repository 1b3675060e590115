-- `scan_line::ends` meets its contract. Assumes nothing.
use Rattle.scan_line.specs.Steps.{ends_by}
use mathlib.Core.Path.{refl}
use Rattle.scan_line.proofs.ends.Goals as goal

pub returns : goal.returns
unfolding ends_by
returns c = refl
