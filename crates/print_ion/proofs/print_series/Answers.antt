-- `print_ion::print_series` meets its contract: three puts in a row, series and position from the record. Assumes nothing.
use Rattle.print_ion.specs.Ions.{position_printed}
use Rattle.print_ion.specs.Texts.{series_printed}
use Rattle.slices.specs.Numbers.{u16_at}
use Rattle.rules.specs.Numbers.{digits}
use mathlib.Core.Path.{ap, ◌∙◌}
use Rattle.put_bytes.proofs.Putting.{put_then, put_as}
use Rattle.print_ion.proofs.print_series.Goals as goal

pub returns : goal.returns
unfolding position_printed
returns c = put_then (put_as c.put_series-a.ensures (ap series_printed c.byte_of.ensures)) (put_then (put_as c.put_number-b.ensures (ap digits (c.u16_at.ensures ∙ ap u16_at c.rest.ensures))) c.put_enclosed.ensures)
