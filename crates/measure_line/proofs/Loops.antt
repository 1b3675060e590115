-- Laws of loops: steps that are not needed change nothing; a step, and the end. Assumes nothing.
use Prim.Native.Nat.{ℕ, zero, suc, ◌<◌, ◌≤◌}
use mathlib.Core.Path.{◌≡◌, refl}
use mathlib.Core.Bool.{Bool, true, false}
use native.Mathlib.Omega.{arith}
use Rattle.measure_line.specs.Loops.{loop}

-- where each step comes nearer to the end
module _ {A : Type 0} (test : A → Bool) (step : A → A) (left : A → ℕ) (falls : (a : A) → test a ≡ true → left (step a) < left a) where
  enough : (n m : ℕ) (a : A) → left a ≤ n → left a ≤ m → loop test step n a ≡ loop test step m a
  unfolding loop
  enough zero zero a h g = refl
  enough zero (suc m) a h g = by (test a) refl
    where
      by : (t : Bool) → test a ≡ t → a ≡ loop test step (suc m) a
      by true e = absurd (let l = falls a e in omega arith)
      by false e = rw e
  enough (suc n) zero a h g = by (test a) refl
    where
      by : (t : Bool) → test a ≡ t → loop test step (suc n) a ≡ a
      by true e = absurd (let l = falls a e in omega arith)
      by false e = rw e
  enough (suc n) (suc m) a h g = by (λ x y. enough n m (step a) x y) (test a) refl
    where
      by : (left (step a) ≤ n → left (step a) ≤ m → loop test step n (step a) ≡ loop test step m (step a))
          → (t : Bool) → test a ≡ t → loop test step (suc n) a ≡ loop test step (suc m) a
      by ih true e = let l = falls a e in rw e (ih (omega arith) (omega arith))
      by ih false e = rw e

  -- one step, and the rest
  pub loop_on : (n : ℕ) (a : A) → left a ≤ n → test a ≡ true → loop test step n a ≡ loop test step n (step a)
  unfolding loop
  loop_on zero a h e = absurd (let l = falls a e in omega arith)
  loop_on (suc n) a h e = let l = falls a e in rw e (enough n (suc n) (step a) (omega arith) (omega arith))

pub loop_ends : {A : Type 0} (test : A → Bool) (step : A → A) (n : ℕ) (a : A) → test a ≡ false → loop test step n a ≡ a
unfolding loop
loop_ends test step zero a e = refl
loop_ends test step (suc n) a e = rw e
