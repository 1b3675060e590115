-- Laws of walking: more turns than are needed change nothing; a turn, and the end; and a walk over spelled things is a fold.
-- Assumes nothing.
use Prim.Native.Nat.{ℕ, zero, suc, ◌+◌, ◌≤◌}
use mathlib.Core.Path.{◌≡◌, refl, ap, ◌∙◌}
use mathlib.Core.Bool.{Bool, true, false}
use mathlib.Core.List.{List, [], ◌∷◌, ◌++◌, append_assoc}
use native.Mathlib.Omega.{arith}
use lib.ListN.{length, drop, length-drop}
use lib.Seq.{drop-append_seam}
use Rattle.lang.specs.Parts.{flat}
use Rattle.lang.specs.Walk.{walked, walk_in, walk, folded}

module _ {S : Type 0} (here : List ℕ → Bool) (size : List ℕ → ℕ) (step : S → List ℕ → S)
    (moves : (s : List ℕ) → here s ≡ true → (1 ≤ size s) × (size s ≤ length s)) where
  left : (s : List ℕ) → here s ≡ true → length (drop (size s) s) + 1 ≤ length s
  left s h = let m = moves s h in omega (arith, length-drop (size s) s)

  -- turns that are not needed
  enough : (n m : ℕ) (s : List ℕ) (a : S) → length s ≤ n → length s ≤ m → walk_in here size step n s a ≡ walk_in here size step m s a
  unfolding walk_in
  enough zero zero s a h g = refl
  enough zero (suc m) s a h g = by (here s) refl
    where
      by : (t : Bool) → here s ≡ t → walked s a ≡ walk_in here size step (suc m) s a
      by true e = absurd (let l = left s e in omega arith)
      by false e = rw e
  enough (suc n) zero s a h g = by (here s) refl
    where
      by : (t : Bool) → here s ≡ t → walk_in here size step (suc n) s a ≡ walked s a
      by true e = absurd (let l = left s e in omega arith)
      by false e = rw e
  enough (suc n) (suc m) s a h g = by (λ x y. enough n m (drop (size s) s) (step a s) x y) (here s) refl
    where
      by : (length (drop (size s) s) ≤ n → length (drop (size s) s) ≤ m → walk_in here size step n (drop (size s) s) (step a s) ≡ walk_in here size step m (drop (size s) s) (step a s))
          → (t : Bool) → here s ≡ t → walk_in here size step (suc n) s a ≡ walk_in here size step (suc m) s a
      by ih true e = let l = left s e in rw e (ih (omega arith) (omega arith))
      by ih false e = rw e

  -- one thing, and the rest
  pub walk_on : (s : List ℕ) (a : S) → here s ≡ true → walk here size step s a ≡ walk here size step (drop (size s) s) (step a s)
  unfolding walk_in
  walk_on [] a h = absurd (let l = left [] h in omega arith)
  walk_on (b ∷ w) a h =
      let s = b ∷ w in
      let l = left s h in
      let e : length (drop (size s) s) ≤ length w = omega arith in
      rw h (enough (length w) (length (drop (size s) s)) (drop (size s) s) (step a s) e (omega arith))

  pub walk_ends : (s : List ℕ) (a : S) → here s ≡ false → walk here size step s a ≡ walked s a
  unfolding walk_in
  walk_ends [] a h = refl
  walk_ends (b ∷ w) a h = rw h

  -- what is left is a part of the text
  rest_in : (n : ℕ) (s : List ℕ) (a : S) → length s ≤ n → length (walk_in here size step n s a).rest ≤ length s
  unfolding walk_in
  rest_in zero s a h = omega arith
  rest_in (suc n) s a h = by (λ x. rest_in n (drop (size s) s) (step a s) x) (here s) refl
    where
      by : (length (drop (size s) s) ≤ n → length (walk_in here size step n (drop (size s) s) (step a s)).rest ≤ length (drop (size s) s))
          → (t : Bool) → here s ≡ t → length (walk_in here size step (suc n) s a).rest ≤ length s
      by ih true e = let l = left s e in rw e (let r = ih (omega arith) in omega arith)
      by ih false e = rw e (omega arith)

  pub walk_rest : (s : List ℕ) (a : S) → length (walk here size step s a).rest ≤ length s
  walk_rest s a = rest_in (length s) s a (omega arith)

  -- over spelled things: each is recognised, whatever of them and of the end follows it
  module _ {X : Type 0} (text : X → List ℕ) (turn : S → X → ℕ → S) (Ends : List ℕ → Type 0)
      (ends : (k : List ℕ) → Ends k → here k ≡ false)
      (known : (x : X) (xs : List X) (k : List ℕ) → Ends k → here (text x ++ (flat text xs ++ k)) ≡ true)
      (long : (x : X) (xs : List X) (k : List ℕ) → Ends k → size (text x ++ (flat text xs ++ k)) ≡ length (text x))
      (turns : (a : S) (x : X) (xs : List X) (k : List ℕ) → Ends k → step a (text x ++ (flat text xs ++ k)) ≡ turn a x (length (flat text xs) + length k)) where
    pub walk_spelled : (xs : List X) (k : List ℕ) (a : S) → Ends k → walk here size step (flat text xs ++ k) a ≡ walked k (folded text turn a xs (length k))
    walk_spelled [] k a e = walk_ends k a (ends k e)
    walk_spelled (x ∷ xs) k a e =
        let s = text x ++ (flat text xs ++ k) in
        ap (λ (z : List ℕ). walk here size step z a) (append_assoc (text x) (flat text xs) k)
        ∙ walk_on s a (known x xs k e)
        ∙ ap (λ (n : ℕ). walk here size step (drop n s) (step a s)) (long x xs k e)
        ∙ ap (λ (z : List ℕ). walk here size step z (step a s)) (drop-append_seam (text x) (flat text xs ++ k))
        ∙ ap (walk here size step (flat text xs ++ k)) (turns a x xs k e)
        ∙ walk_spelled xs k (turn a x (length (flat text xs) + length k)) e
