-- Words that are the same are equal. Assumes nothing.
use Prim.Native.Nat.{ℕ}
use mathlib.Core.Path.{◌≡◌, refl, ap₂}
use mathlib.Core.List.{List, [], ◌∷◌}
use lib.Dec.{T, eqb, eqb→eq}
use Rattle.lang.proofs.Deriv.{and_0, and_1}
use Rattle.elements.specs.Numbers.{same}

pub same→ : (u v : List ℕ) → T (same u v) → u ≡ v
same→ [] [] t = refl
same→ [] (b ∷ v) t = absurd t
same→ (a ∷ u) [] t = absurd t
same→ (a ∷ u) (b ∷ v) t = ap₂ (λ (x : ℕ) (w : List ℕ). x ∷ w) (eqb→eq a b (and_0 (eqb a b) (same u v) t)) (same→ u v (and_1 (eqb a b) (same u v) t))
