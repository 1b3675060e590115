-- What a test shows of each class of a grammar holds of each byte of its texts. Assumes nothing.
use Prim.Native.Nat.{ℕ, suc}
use mathlib.Core.Bool.{Bool, true, ◌&&◌}
use mathlib.Core.List.{List, [], ◌∷◌, ◌++◌}
use mathlib.Core.Logic.{inl, inr}
use lib.Dec.{T}
use Rattle.lang.specs.Re.{Rng, in_c, Brackets, paired, Re, eps, cls, seq, alt, star, nest, Tree, texts, text}
use Rattle.lang.proofs.Deriv.{and_0, and_1, some_way}

-- the test passes each class
abbrev pub each_class : (List Rng → Bool) → Re → Bool
each_class good eps = true
each_class good (cls c) = good c
each_class good (seq r s) = each_class good r && each_class good s
each_class good (alt r s) = each_class good r && each_class good s
each_class good (star r) = each_class good r
each_class good (nest B d) = good B.plain && (good B.opens && good B.closes)

-- All is of lists, and goes on behind a byte of a class that passes
module _ (good : List Rng → Bool) (All : List ℕ → Type 0) (more : (c : List Rng) (b : ℕ) (k : List ℕ) → T (good c) → T (in_c c b) → All k → All (b ∷ k)) where
  each_row : (r : Re) → ((t : Tree r) (k : List ℕ) → All k → All (text r t k)) → (ts : List (Tree r)) (k : List ℕ) → All k → All (texts (text r) ts k)
  each_row r h [] k e = e
  each_row r h (t ∷ ts) k e = h t (texts (text r) ts k) (each_row r h ts k e)

  each_nested : (B : Brackets) → T (each_class good (nest B 0)) → (d : ℕ) (l : List ℕ) → T (paired B l d) → (k : List ℕ) → All k → All (l ++ k)
  each_nested B g d [] p k e = e
  each_nested B g d (b ∷ l) p k e =
      let g' = and_1 (good B.plain) (good B.opens && good B.closes) g in
      some_way B b l d p
      (λ i q. more B.plain b (l ++ k) (and_0 (good B.plain) (good B.opens && good B.closes) g) i (each_nested B g d l q k e))
      (λ i q. more B.opens b (l ++ k) (and_0 (good B.opens) (good B.closes) g') i (each_nested B g (suc d) l q k e))
      (λ n d-is i q. more B.closes b (l ++ k) (and_1 (good B.opens) (good B.closes) g') i (each_nested B g n l q k e))

  pub each_text : (r : Re) → T (each_class good r) → (t : Tree r) (k : List ℕ) → All k → All (text r t k)
  each_text eps g t k e = e
  each_text (cls c) g t k e = more c t.val k g t.is_in e
  each_text (seq r s) g t k e =
      each_text r (and_0 (each_class good r) (each_class good s) g) t.0 (text s t.1 k) (each_text s (and_1 (each_class good r) (each_class good s) g) t.1 k e)
  each_text (alt r s) g (inl t) k e = each_text r (and_0 (each_class good r) (each_class good s) g) t k e
  each_text (alt r s) g (inr t) k e = each_text s (and_1 (each_class good r) (each_class good s) g) t k e
  each_text (star r) g ts k e = each_row r (each_text r g) ts k e
  each_text (nest B d) g t k e = each_nested B g d t.bytes t.pair k e
