-- `print_ion::print_front` meets its contract: flag, analyte and ion, three puts in a row. Assumes nothing.
use Rattle.put_bytes.proofs.Putting.{put_then}
use Rattle.print_ion.proofs.print_front.Goals as goal

pub returns : goal.returns
returns c = put_then c.print_flag-a.ensures (put_then c.print_analyte-b.ensures c.print_ion.ensures)
