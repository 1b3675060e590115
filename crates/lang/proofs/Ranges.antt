-- A class of one range of bytes: what comparing with its ends tells. Assumes nothing.
use Prim.Native.Nat.{ℕ, ◌≤◌, ◌<◌}
use mathlib.Core.Path.{◌≡◌, refl}
use mathlib.Core.Bool.{Bool, true, false, ◌&&◌, ◌||◌}
use mathlib.Core.List.{List, [], ◌∷◌}
use native.Mathlib.Omega.{arith}
use lib.Dec.{leb}
use borrow.Author.Tests.{lt-leb, le-leb}
use Rattle.lang.specs.Re.{rng, in_c}
use Rattle.lang.specs.Parts.{first_in}
use Rattle.lang.proofs.Lits.{in→}
use Rattle.lang.proofs.Tests.{is_t}

last : (t : Bool) → t || false ≡ t
last true = refl
last false = refl

neither : (t : Bool) → (t && false) || false ≡ false
neither true = refl
neither false = refl

module _ (lo hi b : ℕ) where
  pub range_below : b < lo → in_c (rng lo hi ∷ []) b ≡ false
  range_below h = rw (lt-leb lo b h)

  pub range_above : hi < b → in_c (rng lo hi ∷ []) b ≡ false
  range_above h = rw (lt-leb b hi h) (neither (leb lo b))

  pub range_from : lo ≤ b → in_c (rng lo hi ∷ []) b ≡ leb b hi
  range_from h = rw (le-leb lo b h) (last (leb b hi))

  pub range_in : lo ≤ b → b ≤ hi → in_c (rng lo hi ∷ []) b ≡ true
  range_in h g = rw (le-leb lo b h, le-leb b hi g)

  pub in_range : in_c (rng lo hi ∷ []) b ≡ true → (lo ≤ b) × (b ≤ hi)
  in_range e = in→ lo hi b (is_t e)

-- a text that begins with a byte of a range begins with none of a range beside it
module _ (lo hi lo₂ hi₂ : ℕ) where
  pub first_above : hi < lo₂ → (s : List ℕ) → first_in (rng lo hi ∷ []) s ≡ true → first_in (rng lo₂ hi₂ ∷ []) s ≡ false
  first_above h [] e = refl
  first_above h (b ∷ s) e = let r = in_range lo hi b e in range_below lo₂ hi₂ b (omega arith)

  pub first_below : hi₂ < lo → (s : List ℕ) → first_in (rng lo hi ∷ []) s ≡ true → first_in (rng lo₂ hi₂ ∷ []) s ≡ false
  first_below h [] e = refl
  first_below h (b ∷ s) e = let r = in_range lo hi b e in range_above lo₂ hi₂ b (omega arith)
