-- What a text may begin with: a test that antt computes over a grammar, instead of a case for each kind of continuation.
-- Assumes nothing.
use Prim.Native.Nat.{ℕ, ◌≤◌}
use mathlib.Core.Path.{◌≡◌, refl, sym, ap, ◌∙◌, subst}
use mathlib.Core.Bool.{Bool, true, false, not, ◌&&◌, ◌||◌}
use mathlib.Core.List.{List, [], ◌∷◌, ◌++◌, head-eq_of_cons-eq}
use mathlib.Core.Logic.{◌⊎◌, inl, inr}
use native.Mathlib.Omega.{arith}
use native.Mathlib.Decide.{dec_le}
use lib.Dec.{T, T_not}
use Rattle.lang.specs.Re.{Rng, in_c, Brackets, none_open, paired, Re, eps, cls, seq, alt, star, nest, Tree, texts, either, text}
use Rattle.lang.specs.Parts.{first_in}
use Rattle.lang.proofs.Deriv.{null, and_0, and_1, and_i, or_l, or_r, some_way}
use Rattle.lang.proofs.Machine.{all_b, all→}
use Rattle.lang.proofs.Unique.{low_c, low_c→}
use Rattle.lang.proofs.Means.{Means}

-- some text of r begins with b
abbrev pub first : Re → ℕ → Bool
first eps b = false
first (cls c) b = in_c c b
first (seq r s) b = first r b || (null r && first s b)
first (alt r s) b = first r b || first s b
first (star r) b = first r b
first (nest B d) b = in_c B.plain b || (in_c B.opens b || (not (none_open d) && in_c B.closes b))

-- of a tree's text, or of what follows an empty one
abbrev Starts : Re → ℕ → List ℕ → List ℕ → Type 0
Starts r b w k = T (first r b) ⊎ (T (null r) × (k ≡ b ∷ w))

starts_star : (r : Re) (b : ℕ) (w : List ℕ) → ((t : Tree r) (k : List ℕ) → text r t k ≡ b ∷ w → Starts r b w k) → (ts : List (Tree r)) (k : List ℕ) → texts (text r) ts k ≡ b ∷ w → T (first r b) ⊎ (k ≡ b ∷ w)
starts_star r b w h [] k e = inr e
starts_star r b w h (t ∷ ts) k e = either inl (λ y. starts_star r b w h ts k y.1) (h t (texts (text r) ts k) e)

starts_nest : (B : Brackets) (d : ℕ) (b : ℕ) (w : List ℕ) (l : List ℕ) → T (paired B l d) → (k : List ℕ) → l ++ k ≡ b ∷ w → Starts (nest B d) b w k
starts_nest B d b w [] p k e = inr (p, e)
starts_nest B d b w (x ∷ l) p k e = inl (subst (λ (y : ℕ). T (first (nest B d) y)) (head-eq_of_cons-eq e) at)
  where
    closing_first : Bool
    closing_first = not (none_open d) && in_c B.closes x

    at : T (first (nest B d) x)
    at =
        some_way B x l d p
        (λ i q. or_l (in_c B.plain x) (in_c B.opens x || closing_first) i)
        (λ i q. or_r (in_c B.plain x) (in_c B.opens x || closing_first) (or_l (in_c B.opens x) closing_first i))
        (λ n d-is i q.
        or_r (in_c B.plain x) (in_c B.opens x || closing_first)
        (or_r (in_c B.opens x) closing_first (and_i (not (none_open d)) (in_c B.closes x) (subst (λ (m : ℕ). T (not (none_open m))) (sym d-is) tt) i)))

starts : (r : Re) (b : ℕ) (w : List ℕ) (t : Tree r) (k : List ℕ) → text r t k ≡ b ∷ w → Starts r b w k
starts eps b w t k e = inr (tt, e)
starts (cls c) b w t k e = inl (subst (λ (x : ℕ). T (in_c c x)) (head-eq_of_cons-eq e) t.is_in)
starts (seq r s) b w t k e =
    either
    (λ y. inl (or_l (first r b) (null r && first s b) y))
    (λ y.
    either
    (λ z. inl (or_r (first r b) (null r && first s b) (and_i (null r) (first s b) y.0 z)))
    (λ z. inr (and_i (null r) (null s) y.0 z.0, z.1))
    (starts s b w t.1 k y.1))
    (starts r b w t.0 (text s t.1 k) e)
starts (alt r s) b w (inl t) k e =
    either (λ y. inl (or_l (first r b) (first s b) y)) (λ y. inr (or_l (null r) (null s) y.0, y.1)) (starts r b w t k e)
starts (alt r s) b w (inr t) k e =
    either (λ y. inl (or_r (first r b) (first s b) y)) (λ y. inr (or_r (null r) (null s) y.0, y.1)) (starts s b w t k e)
starts (nest B d) b w t k e = starts_nest B d b w t.bytes t.pair k e
starts (star r) b w t k e = either inl (λ y. inr (tt, y)) (starts_star r b w (starts r b w) t k e)

-- no byte of the class begins a text of r
abbrev pub apart : List Rng → Re → Bool
apart c r = low_c c && all_b (λ b. not (in_c c b && first r b)) 256

apart→ : (c : List Rng) (r : Re) → T (apart c r) → (b : ℕ) → T (in_c c b) → T (first r b) → ⊥
apart→ c r t b i f = by (dec_le 256 b)
  where
    by : Dec (256 ≤ b) → ⊥
    by (yes g) = low_c→ c b (and_0 (low_c c) (all_b (λ b. not (in_c c b && first r b)) 256) t) g i
    by (no g) =
        T_not (in_c c b && first r b)
        (all→ (λ b. not (in_c c b && first r b)) 256 (and_1 (low_c c) (all_b (λ b. not (in_c c b && first r b)) 256) t) b (omega arith))
        (and_i (in_c c b) (first r b) i f)

-- a text of r and then k begins with no byte of the class; k matters only where r may be empty
module _ {X : Type 0} {tx : X → List ℕ} {r : Re} (m : Means X tx r) (c : List Rng) (t : T (apart c r)) where
  pub avoids : (x : X) (k : List ℕ) → (T (null r) → first_in c k ≡ false) → first_in c (tx x ++ k) ≡ false
  avoids x k h = by (tx x ++ k) refl
    where
      by : (l : List ℕ) → tx x ++ k ≡ l → first_in c l ≡ false
      by [] e = refl
      by (b ∷ w) e = at (in_c c b) refl
        where
          at : (y : Bool) → in_c c b ≡ y → in_c c b ≡ false
          at false p = p
          at true p =
              let i : T (in_c c b) = subst T (sym p) tt in
              either
              (λ f. absurd (apart→ c r t b i f))
              (λ z. ap (first_in c) (sym z.1) ∙ h z.0)
              (starts r b w (m.enc x) k (m.enc_text x k ∙ e))
