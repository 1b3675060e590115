-- The walk over the leading bytes of a class: it ends at the first byte that is not in it. Assumes nothing.
use Prim.Native.Nat.{ℕ, ◌+◌}
use mathlib.Core.Path.{◌≡◌, sym}
use mathlib.Core.Bool.{true, false}
use mathlib.Core.List.{List, ◌∷◌}
use native.Mathlib.Numerals.{add-one}
use Rattle.lang.specs.Re.{Rng, in_c}
use Rattle.texts.specs.Leading.{leading_in}

module _ (c : List Rng) where
  pub stops : (b : ℕ) (w : List ℕ) → in_c c b ≡ false → leading_in c (b ∷ w) ≡ 0
  unfolding leading_in
  stops b w e = rw e

  pub goes : (b : ℕ) (w : List ℕ) → in_c c b ≡ true → leading_in c (b ∷ w) ≡ leading_in c w + 1
  unfolding leading_in
  goes b w e = rw e (sym (add-one (leading_in c w)))
