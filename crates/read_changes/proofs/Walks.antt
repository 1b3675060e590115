-- Two laws of any walk: what is left depends on nothing that is known, and what is known grows no faster than the bytes passed.
-- Assumes nothing.
use Prim.Native.Nat.{ℕ, zero, suc, ◌+◌, ◌≤◌}
use mathlib.Core.Path.{◌≡◌, refl}
use mathlib.Core.Bool.{Bool, true, false, cond}
use mathlib.Core.List.{List}
use native.Mathlib.Omega.{arith}
use lib.ListN.{length, drop, length-drop}
use Rattle.lang.specs.Walk.{walked, walk_in, walk}

module _ {S R : Type 0} (here : List ℕ → Bool) (size : List ℕ → ℕ) (step : S → List ℕ → S) (other : R → List ℕ → R) where
  same_in : (n : ℕ) (s : List ℕ) (a : S) (b : R) → (walk_in here size step n s a).rest ≡ (walk_in here size other n s b).rest
  unfolding walk_in
  same_in zero s a b = refl
  same_in (suc n) s a b = by (same_in n (drop (size s) s) (step a s) (other b s)) (here s)
    where
      by : (walk_in here size step n (drop (size s) s) (step a s)).rest ≡ (walk_in here size other n (drop (size s) s) (other b s)).rest
          → (t : Bool) → (cond t (walk_in here size step n (drop (size s) s) (step a s)) (walked s a)).rest
          ≡ (cond t (walk_in here size other n (drop (size s) s) (other b s)) (walked s b)).rest
      by ih true = ih
      by ih false = refl

  pub rest_same : (s : List ℕ) (a : S) (b : R) → (walk here size step s a).rest ≡ (walk here size other s b).rest
  rest_same s a b = same_in (length s) s a b

module _ {S : Type 0} (here : List ℕ → Bool) (size : List ℕ → ℕ) (step : S → List ℕ → S) (held : S → ℕ)
    (grows : (a : S) (s : List ℕ) → here s ≡ true → (held (step a s) ≤ held a + size s) × (size s ≤ length s)) where
  held_in : (n : ℕ) (s : List ℕ) (a : S) → held (walk_in here size step n s a).known + length (walk_in here size step n s a).rest ≤ held a + length s
  unfolding walk_in
  held_in zero s a = omega arith
  held_in (suc n) s a = by (held_in n (drop (size s) s) (step a s)) (here s) refl
    where
      by : held (walk_in here size step n (drop (size s) s) (step a s)).known + length (walk_in here size step n (drop (size s) s) (step a s)).rest ≤ held (step a s) + length (drop (size s) s)
          → (t : Bool) → here s ≡ t → held (walk_in here size step (suc n) s a).known + length (walk_in here size step (suc n) s a).rest ≤ held a + length s
      by ih true e = let g = grows a s e in rw e (omega (arith, ih, length-drop (size s) s))
      by ih false e = rw e (omega arith)

  pub held_within : (s : List ℕ) (a : S) → held (walk here size step s a).known + length (walk here size step s a).rest ≤ held a + length s
  held_within s a = held_in (length s) s a
