-- `slices::u16_at` meets its contract. Assumes nothing.
use mathlib.Core.Path.{◌∙◌}
use Rattle.slices.proofs.Numbers.{word_of}
use Rattle.slices.proofs.u16_at.Goals as goal

pub returns : goal.returns
returns c = c.from_le_bytes.ensures ∙ word_of _ _ c.first_bytes.ensures
