-- `print_ion::print_composed` meets its contract: three puts in a row, the units by their count in the record. Assumes nothing.
use Rattle.print_ion.specs.Ions.{composed_printed}
use Rattle.put_formula.specs.Preferred.{printed_units}
use Prim.Native.Nat.{ℕ}
use mathlib.Core.Path.{ap}
use Rattle.put_bytes.proofs.Putting.{put_then, put_as}
use Rattle.print_ion.proofs.print_composed.Goals as goal

pub returns : goal.returns
unfolding composed_printed
returns c = put_then c.put_run-a.ensures (put_then (put_as c.print_units-b.ensures (ap (λ (n : ℕ). printed_units n c.args.u.now) c.ion_units.ensures)) c.put8.ensures)
