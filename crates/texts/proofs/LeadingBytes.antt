-- Leading bytes of a class: there are no more than bytes, and a text ends at the closing brace. Assumes nothing.
use Prim.Native.Nat.{ℕ, suc, ◌≤◌}
use mathlib.Core.Path.{◌≡◌, refl, ap}
use mathlib.Core.Bool.{false}
use mathlib.Core.List.{List, [], ◌∷◌, ◌++◌}
use native.Mathlib.Omega.{arith}
use lib.Dec.{T}
use lib.ListN.{length}
use Rattle.lang.specs.Re.{Rng, in_c, either}
use Rattle.lang.specs.Parts.{all}
use Rattle.lang.proofs.Deriv.{and_0, and_1}
use Rattle.lang.proofs.Tests.{t_is, case}
use Rattle.rules.specs.Bytes.{text_byte}
use Rattle.rules.specs.Texts.{some_of, first_in, Text}
use Rattle.texts.specs.Leading.{leading_in}

module _ (c : List Rng) where
  pub leading_within : (l : List ℕ) → leading_in c l ≤ length l
  unfolding leading_in
  leading_within [] = omega arith
  leading_within (b ∷ l) = let h = leading_within l in either (λ p. rw p (omega arith)) (λ p. rw p (omega arith)) (case (in_c c b))

  -- bytes of the class, and then none: they are what leads
  leading_append : (w k : List ℕ) → T (all c w) → first_in c k ≡ false → leading_in c (w ++ k) ≡ length w
  unfolding leading_in
  leading_append [] [] h n = refl
  leading_append [] (b ∷ k) h n = rw n
  leading_append (b ∷ w) k h n = rw (t_is (in_c c b) (and_0 (in_c c b) (all c w) h)) (ap suc (leading_append w k (and_1 (in_c c b) (all c w) h) n))

  some_all : (w : List ℕ) → T (some_of c w) → T (all c w)
  some_all [] t = tt
  some_all (b ∷ w) t = t

-- a text ends at the closing brace
pub text_ends : (t : Text) (k : List ℕ) → leading_in text_byte (t.bytes ++ (125 ∷ k)) ≡ length t.bytes
text_ends t k = leading_append text_byte t.bytes (125 ∷ k) (some_all text_byte t.bytes t.good) refl
