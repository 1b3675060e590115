-- `print_ion::print_internal` meets its contract: six puts in a row, letters and both numbers from the record. Assumes nothing.
use Rattle.print_ion.specs.Ions.{internal_printed}
use Rattle.print_ion.specs.Texts.{letters_printed}
use Rattle.slices.specs.Numbers.{u16_at}
use Rattle.rules.specs.Numbers.{digits}
use mathlib.Core.Path.{ap, ◌∙◌}
use Rattle.put_bytes.proofs.Putting.{put_then, put_as}
use Rattle.print_ion.proofs.print_internal.Goals as goal

pub returns : goal.returns
unfolding internal_printed
returns c = put_then c.put8-a.ensures (put_then (put_as c.put_letters-b.ensures (ap letters_printed c.byte_of.ensures)) (put_then (put_as c.put_number-c.ensures (ap digits (c.u16_at.ensures ∙ ap u16_at c.rest.ensures))) (put_then c.put8-d.ensures (put_then (put_as c.put_number-e.ensures (ap digits (c.u16_at-2.ensures ∙ ap u16_at c.rest-2.ensures))) c.put_enclosed.ensures))))
