-- Names: bytes of a class, with a say in the first. Assumes nothing.
use Prim.Native.Nat.{ℕ, ◌≤◌}
use mathlib.Core.Path.{◌≡◌, refl, ap}
use mathlib.Core.Bool.{Bool, not, ◌||◌}
use mathlib.Core.List.{List, [], ◌∷◌, ◌++◌}
use native.Mathlib.Omega.{arith}
use native.Mathlib.Decide.{dec_le}
use lib.Dec.{T, T_not}
use Rattle.lang.specs.Re.{Rng, in_c, Re, cls, seq, star, Byte, Tree, texts, text, either}
use Rattle.lang.specs.Parts.{all}
use Rattle.lang.proofs.Deriv.{and_0, and_1, and_i, or_e}
use Rattle.lang.proofs.Machine.{all_b, all→}
use Rattle.lang.proofs.Unique.{low_c, low_c→}

-- what a test shows of each byte of a class
pub cover : (c : List Rng) (f : ℕ → Bool) → T (low_c c) → T (all_b (λ b. not (in_c c b) || f b) 256) → (b : ℕ) → T (in_c c b) → T (f b)
cover c f l t b h = by (dec_le 256 b)
  where
    by : Dec (256 ≤ b) → T (f b)
    by (yes g) = absurd (low_c→ c b l g h)
    by (no g) = either (λ n. absurd (T_not (in_c c b) n h)) (λ x. x) (or_e (not (in_c c b)) (f b) (all→ (λ b. not (in_c c b) || f b) 256 t b (omega arith)))

module _ (p : List Rng) where
  pub rest_enc : (w : List ℕ) → T (all p w) → (t : List (Byte p)) × ((k : List ℕ) → texts (text (cls p)) t k ≡ w ++ k)
  rest_enc [] h = ([], λ k. refl)
  rest_enc (b ∷ w) h =
      let x = rest_enc w (and_1 (in_c p b) (all p w) h) in
      (record { val = b; is_in = and_0 (in_c p b) (all p w) h } ∷ x.0, λ k. ap (λ (l : List ℕ). b ∷ l) (x.1 k))

  pub rest_dec : (t : List (Byte p)) → (w : List ℕ) × T (all p w) × ((k : List ℕ) → texts (text (cls p)) t k ≡ w ++ k)
  rest_dec [] = ([], tt, λ k. refl)
  rest_dec (y ∷ t) = let x = rest_dec t in (y.val ∷ x.0, and_i (in_c p y.val) (all p x.0) y.is_in x.1, λ k. ap (λ (l : List ℕ). y.val ∷ l) (x.2 k))

  -- a byte of c, and the rest
  abbrev pub head_re : List Rng → Re
  head_re c = seq (cls c) (star (cls p))

  pub head_enc : (c : List Rng) (b : ℕ) (w : List ℕ) → T (in_c c b) → T (all p w) → (t : Tree (head_re c)) × ((k : List ℕ) → text (head_re c) t k ≡ b ∷ (w ++ k))
  head_enc c b w h g = let x = rest_enc w g in ((record { val = b; is_in = h }, x.0), λ k. ap (λ (l : List ℕ). b ∷ l) (x.1 k))

  pub head_dec : (c : List Rng) → ((b : ℕ) → T (in_c c b) → T (in_c p b)) → (t : Tree (head_re c)) → (b : ℕ) × (w : List ℕ) × T (all p (b ∷ w)) × T (in_c c b) × ((k : List ℕ) → text (head_re c) t k ≡ b ∷ (w ++ k))
  head_dec c h t =
      let x = rest_dec t.1 in
      let b = t.0.val in
      (b, x.0, and_i (in_c p b) (all p x.0) (h b t.0.is_in) x.1, t.0.is_in, λ k. ap (λ (l : List ℕ). b ∷ l) (x.2 k))
