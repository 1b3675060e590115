-- A section that there is not: its cursor stands behind every output. Assumes nothing.
use Prim.Native.Nat.{ℕ, zero, suc, ◌<◌}
use mathlib.Core.Path.{◌≡◌, refl}
use native.Mathlib.Omega.{arith}
use Rattle.rules.specs.Layout.{text_section}
use Rattle.put_bytes.specs.Puts.{max_place}
use Rattle.store_sections.specs.declared.Cursors.{Cursors}
use Rattle.store_sections.specs.Pages.{at}

pub at_none : (j : ℕ) (c : Cursors) → text_section < j → max_place ≡ at j c
at_none zero c h = absurd (omega arith)
at_none (suc zero) c h = absurd (omega arith)
at_none (suc (suc zero)) c h = absurd (omega arith)
at_none (suc (suc (suc zero))) c h = absurd (omega arith)
at_none (suc (suc (suc (suc zero)))) c h = absurd (omega arith)
at_none (suc (suc (suc (suc (suc zero))))) c h = absurd (omega arith)
at_none (suc (suc (suc (suc (suc (suc j)))))) c h = refl
