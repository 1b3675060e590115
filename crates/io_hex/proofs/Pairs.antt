-- Digits, and the pairs that are left. Assumes nothing.
use Prim.Native.Nat.{ℕ, zero, suc, ◌+◌, ◌-◌, ◌%◌, ◌<◌}
use mathlib.Core.Path.{◌≡◌, refl, sym, ap, ◌∙◌}
use mathlib.Core.Bool.{Bool, true, false, cond, ◌&&◌, and-false}
use mathlib.Core.List.{List, [], ◌∷◌, ◌++◌}
use native.Mathlib.Omega.{arith}
use lib.ListN.{length, get_or}
use lib.Dec.{ltb, leb}
use borrow.Author.Tests.{leb-true, eq-eqb}
use Rattle.std.specs.Prelude.{Option, Some, None, is_some, unwrap_or}
use Rattle.std.specs.Bool.{MatchBool}
use Rattle.std.specs.List.{HoldsAt, AllWithin}
use Rattle.io_hex.specs.Hexes.{hex_value, byte_of, all_digits, spelled, unhexed}

-- what a digit counts fits four bits
value_fits : (b : ℕ) → unwrap_or (hex_value b) 0 < 16
unfolding hex_value
value_fits b = by (ltb b 48) (leb b 57) refl (ltb b 65) (leb b 70) refl (ltb b 97) (leb b 102) refl
  where
    by : (p q : Bool) → leb b 57 ≡ q → (r s : Bool) → leb b 70 ≡ s → (t u : Bool) → leb b 102 ≡ u
        → unwrap_or
        (cond {A = Option ℕ} p None
        (cond q (Some (b - 48)) (cond r None (cond s (Some (b - 65 + 10)) (cond t None (cond u (Some (b - 97 + 10)) None))))))
        0
        < 16
    by true q e r s f t u g = omega arith
    by false true e r s f t u g = omega (arith, leb-true b 57 e)
    by false false e true s f t u g = omega arith
    by false false e false true f t u g = omega (arith, leb-true b 70 f)
    by false false e false false f true u g = omega arith
    by false false e false false f false true g = omega (arith, leb-true b 102 g)
    by false false e false false f false false g = omega arith

pub digit_fits : (b : ℕ) {o : Option ℕ} {v : ℕ} → v ≡ unwrap_or o 0 → o ≡ hex_value b → v < 16
digit_fits b e q = rw (e, q) (value_fits b)

all_in : (s : List ℕ) → AllWithin (λ b. is_some (hex_value b) ≡ true) s 0 (length s) → all_digits s ≡ true
unfolding all_digits
all_in [] h = refl
all_in (b ∷ w) h =
    let e : is_some (hex_value b) ≡ true = h 0 0 (omega arith) (omega arith) in
    rw e (all_in w (λ k d l g. h (suc k) d (omega arith) (omega arith)))

not_in : (s : List ℕ) (k : ℕ) → k < length s → HoldsAt (λ b. is_some (hex_value b) ≡ false) s k → all_digits s ≡ false
unfolding all_digits
not_in [] k l h = absurd (omega arith)
not_in (b ∷ w) zero l h = let e : is_some (hex_value b) ≡ false = h 0 in rw e
not_in (b ∷ w) (suc k) l h = rw (not_in w k (omega arith) h) (and-false (is_some (hex_value b)))

pub even_digits : (s : List ℕ) {r : Bool} → length s % 2 ≡ 0 → r ≡ all_digits s → r ≡ spelled s
even_digits s e q = rw (eq-eqb (length s % 2) 0 e, q) (and_true (all_digits s))
  where
    and_true : (t : Bool) → t ≡ t && true
    and_true true = refl
    and_true false = refl

-- all are digits, or one is none
pub all_or_one : (s : List ℕ) {r : Bool}
    → MatchBool r (AllWithin (λ b. is_some (hex_value b) ≡ true) s 0 (length s)) ((k : ℕ) × (k < length s) × HoldsAt (λ b. is_some (hex_value b) ≡ false) s k)
    → r ≡ all_digits s
all_or_one s {r = true} h = sym (all_in s h)
all_or_one s {r = false} h = sym (not_in s h.0 h.1 h.2)

-- two of what is left
pub pair_more : (x m : List ℕ) {l : List ℕ} {b : ℕ} → l ≡ x ++ m → length x ≡ 2 → b ≡ byte_of (get_or x 0 0) (get_or x 1 0) → unhexed l ≡ (b ∷ []) ++ unhexed m
unfolding unhexed
pair_more [] m p h e = absurd (omega arith)
pair_more (a ∷ []) m p h e = absurd (omega arith)
pair_more (a ∷ c ∷ []) m p h e = ap unhexed p ∙ ap (λ (y : ℕ). y ∷ unhexed m) (sym e)
pair_more (a ∷ c ∷ d ∷ w) m p h e = absurd (omega arith)

pub pair_none : (l : List ℕ) → length l < 2 → unhexed l ≡ []
unfolding unhexed
pair_none [] h = refl
pair_none (a ∷ []) h = refl
pair_none (a ∷ b ∷ l) h = absurd (omega arith)
