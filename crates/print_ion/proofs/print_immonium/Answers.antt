-- `print_ion::print_immonium` meets its contract: three puts in a row, the letter from the record. Assumes nothing.
use Rattle.print_ion.specs.Ions.{immonium_printed}
use mathlib.Core.List.{[], ◌∷◌}
use Prim.Native.Nat.{ℕ}
use mathlib.Core.Path.{ap}
use Rattle.put_bytes.proofs.Putting.{put_then, put_as}
use Rattle.print_ion.proofs.print_immonium.Goals as goal

pub returns : goal.returns
unfolding immonium_printed
returns c = put_then c.put8-a.ensures (put_then (put_as c.put8-b.ensures (ap (λ (b : ℕ). b ∷ []) c.byte_of.ensures)) c.put_enclosed.ensures)
