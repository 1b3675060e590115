-- `slices::u64_at` meets its contract. Assumes nothing.
use mathlib.Core.Path.{◌∙◌}
use Rattle.slices.proofs.Numbers.{oct_of}
use Rattle.slices.proofs.u64_at.Goals as goal

pub returns : goal.returns
returns c = c.from_le_bytes.ensures ∙ oct_of _ _ c.first_bytes.ensures
