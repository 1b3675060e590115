-- Names whose brackets pair up, with a say in the first byte. Assumes nothing.
use Prim.Native.Nat.{ℕ}
use mathlib.Core.Path.{◌≡◌, refl}
use mathlib.Core.List.{List, ◌∷◌, ◌++◌}
use mathlib.Core.Logic.{◌⊎◌, inl, inr}
use native.Mathlib.Omega.{arith}
use lib.Dec.{T}
use Rattle.lang.specs.Re.{Rng, in_c, Brackets, paired, Re, cls, seq, alt, nest, Tree, text, either}
use Rattle.lang.proofs.Deriv.{plain_in, opens_in, some_way}

module _ (B : Brackets) where
  -- any bytes whose brackets pair up, or none
  abbrev pub paired_re : Re
  paired_re = nest B 0

  -- a byte of c, or one that opens a bracket; and the rest
  abbrev pub nested_re : List Rng → Re
  nested_re c = alt (seq (cls c) paired_re) (seq (cls B.opens) (nest B 1))

  -- where no bracket is open, a byte stands for itself or opens one
  pub first_byte : (b : ℕ) (w : List ℕ) → T (paired B (b ∷ w) 0) → (T (in_c B.plain b) × T (paired B w 0)) ⊎ (T (in_c B.opens b) × T (paired B w 1))
  first_byte b w p = some_way B b w 0 p (λ i q. inl (i, q)) (λ i q. inr (i, q)) (λ n e i q. absurd (omega arith))

  pub nested_enc : (c : List Rng) (b : ℕ) (w : List ℕ) → (T (in_c B.plain b) → T (in_c c b)) → T (paired B (b ∷ w) 0) → (t : Tree (nested_re c)) × ((k : List ℕ) → text (nested_re c) t k ≡ b ∷ (w ++ k))
  nested_enc c b w h p =
      either
      (λ y. (inl (record { val = b; is_in = h y.0 }, record { bytes = w; pair = y.1 }), λ k. refl))
      (λ y. (inr (record { val = b; is_in = y.0 }, record { bytes = w; pair = y.1 }), λ k. refl))
      (first_byte b w p)

  pub nested_dec : (c : List Rng) → ((b : ℕ) → T (in_c c b) → T (in_c B.plain b)) → (t : Tree (nested_re c))
      → (b : ℕ) × (w : List ℕ) × T (paired B (b ∷ w) 0) × (T (in_c c b) ⊎ T (in_c B.opens b)) × ((k : List ℕ) → text (nested_re c) t k ≡ b ∷ (w ++ k))
  nested_dec c h (inl t) = (t.0.val, t.1.bytes, plain_in B t.0.val t.1.bytes 0 (h t.0.val t.0.is_in) t.1.pair, inl t.0.is_in, λ k. refl)
  nested_dec c h (inr t) = (t.0.val, t.1.bytes, opens_in B t.0.val t.1.bytes 0 t.0.is_in t.1.pair, inr t.0.is_in, λ k. refl)
