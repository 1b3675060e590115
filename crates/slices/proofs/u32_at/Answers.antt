-- `slices::u32_at` meets its contract. Assumes nothing.
use mathlib.Core.Path.{◌∙◌}
use Rattle.slices.proofs.Numbers.{quad_of}
use Rattle.slices.proofs.u32_at.Goals as goal

pub returns : goal.returns
returns c = c.from_le_bytes.ensures ∙ quad_of _ _ c.first_bytes.ensures
