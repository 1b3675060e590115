-- A type with its text, the grammar that it means, and the stacks that begin with it: the same language, and no two with one text. Assumes nothing.
use Prim.Native.Nat.{ℕ}
use mathlib.Core.Path.{◌≡◌, sym, ap, ◌∙◌}
use mathlib.Core.List.{List, [], ◌∷◌, append-nil}
use mathlib.Core.Logic.{◌↔◌, inl}
use Rattle.lang.specs.Re.{Re, either}
use Rattle.lang.proofs.Same.{LA}
use Rattle.lang.proofs.Means.{Means}

module _ {X : Type 0} {tx : X → List ℕ} {r : Re} (m : Means X tx r) where
  pub from_start : (w : List ℕ) → LA ((r ∷ []) ∷ []) w ↔ ((x : X) × (tx x ≡ w))
  from_start w = (
    λ z. either (λ y. (m.dec y.0.0, sym (append-nil (tx (m.dec y.0.0))) ∙ sym (m.dec_text y.0.0 []) ∙ y.1)) (λ y. absurd y) z,
    λ s. inl ((m.enc s.0, tt), m.enc_text s.0 [] ∙ append-nil (tx s.0) ∙ s.1),
  )

  pub unambiguous : ((w : List ℕ) → IsProp (LA ((r ∷ []) ∷ []) w)) → (x y : X) → tx x ≡ tx y → x ≡ y
  unambiguous p x y e =
      let f : LA ((r ∷ []) ∷ []) (tx x) → X = λ z. either (λ t. m.dec t.0.0) (λ t. absurd t) z in
      let a : LA ((r ∷ []) ∷ []) (tx x) = inl ((m.enc x, tt), m.enc_text x [] ∙ append-nil (tx x)) in
      let b : LA ((r ∷ []) ∷ []) (tx x) = inl ((m.enc y, tt), m.enc_text y [] ∙ append-nil (tx y) ∙ sym e) in
      sym (m.back x) ∙ ap f (p (tx x) a b) ∙ m.back y
