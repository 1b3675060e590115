-- `try_terms::say_symbol` meets its contract. Assumes nothing.
use mathlib.Core.Path.{ap}
use Rattle.put_bytes.proofs.Putting.{put_then, put_as}
use Rattle.try_terms.specs.Lines.{element_text}
use Rattle.try_terms.proofs.say_symbol.Goals as goal

pub returns : goal.returns
returns c = put_as (put_then c.put_field-p.ensures (put_then c.put_field-q.ensures c.put_symbol.ensures)) (ap element_text c.read_element-e.ensures)
