-- `try_terms::say_number` meets its contract. Assumes nothing.
use mathlib.Core.Path.{ap}
use Rattle.put_bytes.proofs.Putting.{put_then, put_as}
use Rattle.try_terms.specs.Lines.{number_text}
use Rattle.try_terms.proofs.say_number.Goals as goal

pub returns : goal.returns
returns c = put_as (put_then c.put_field-p.ensures c.put_number.ensures) (ap number_text c.read_number-n.ensures)
