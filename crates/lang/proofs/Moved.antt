-- A scan's step by what a program tests: the byte and the state as numbers. Assumes nothing.
use Prim.Native.Nat.{ℕ, ◌+◌, ◌-◌, ◌<◌, ◌≤◌}
use mathlib.Core.Path.{◌≡◌, refl, sym, ◌∙◌, subst}
use mathlib.Core.Bool.{Bool, true, false, cond, ◌&&◌}
use native.Mathlib.Omega.{arith}
use lib.Dec.{T, ltb, ltb→lt, lt→ltb}
use Rattle.lang.specs.Re.{in_c}
use Rattle.lang.specs.Scan.{counted, moved}
use Rattle.lang.proofs.Deriv.{and_0, and_1, and_i}
use Rattle.lang.proofs.Lits.{one, one_in, one_eq}

yes_cond : {A : Type 0} (x : Bool) (a b : A) → T x → cond x a b ≡ a
yes_cond true a b t = refl
yes_cond false a b t = absurd t

no_cond : {A : Type 0} (x : Bool) (a b : A) → (T x → ⊥) → cond x a b ≡ b
no_cond true a b t = absurd (t tt)
no_cond false a b t = refl

-- one byte, o, opens a bracket, and one, z, closes one; the state is deep or not
module _ (deep : Bool) (o z q d t b : ℕ) where
  abbrev Moves : ℕ × ℕ → Type 0
  Moves p = moved deep (in_c (one o) b) (in_c (one z) b) q d t ≡ p

  abbrev Counts : ℕ × ℕ → Type 0
  Counts p = counted (in_c (one o) b) (in_c (one z) b) q d t ≡ p

  is_one : {x : ℕ} → b ≡ x → T (in_c (one x) b)
  is_one {x} e = subst (λ (y : ℕ). T (in_c (one x) y)) (sym e) (one_in x)

  deep_moves : T deep → {p : ℕ × ℕ} → Counts p → Moves p
  deep_moves h e = yes_cond deep (counted (in_c (one o) b) (in_c (one z) b) q d t) (t, d) h ∙ e

  not_opened : (b ≡ o → ⊥) → {p : ℕ × ℕ} → cond (ltb 0 d && in_c (one z) b) (q, d - 1) (t, d) ≡ p → Counts p
  not_opened n e = no_cond (in_c (one o) b) (q, d + 1) (cond (ltb 0 d && in_c (one z) b) (q, d - 1) (t, d)) (λ u. n (one_eq o b u)) ∙ e

  pub moved_flat : (T deep → ⊥) → Moves (t, d)
  moved_flat h = no_cond deep (counted (in_c (one o) b) (in_c (one z) b) q d t) (t, d) h

  pub moved_open : T deep → b ≡ o → Moves (q, d + 1)
  moved_open h e = deep_moves h (yes_cond (in_c (one o) b) (q, d + 1) (cond (ltb 0 d && in_c (one z) b) (q, d - 1) (t, d)) (is_one e))

  pub moved_close : T deep → (b ≡ o → ⊥) → b ≡ z → 0 < d → Moves (q, d - 1)
  moved_close h n e g = deep_moves h (not_opened n (yes_cond (ltb 0 d && in_c (one z) b) (q, d - 1) (t, d) (and_i (ltb 0 d) (in_c (one z) b) (lt→ltb 0 d g) (is_one e))))

  pub moved_on : T deep → (b ≡ o → ⊥) → (b ≡ z → 0 < d → ⊥) → Moves (t, d)
  moved_on h n f =
      deep_moves h (not_opened n (no_cond (ltb 0 d && in_c (one z) b) (q, d - 1) (t, d) (λ u. f (one_eq z b (and_1 (ltb 0 d) (in_c (one z) b) u)) (ltb→lt 0 d (and_0 (ltb 0 d) (in_c (one z) b) u)))))

-- a step goes one deeper at most
pub moved_le : (x o z : Bool) (q d t : ℕ) → (moved x o z q d t).1 ≤ d + 1
moved_le false o z q d t = omega arith
moved_le true true z q d t = omega arith
moved_le true false z q d t = by (ltb 0 d && z)
  where
    by : (y : Bool) → (cond {A = ℕ × ℕ} y (q, d - 1) (t, d)).1 ≤ d + 1
    by true = omega arith
    by false = omega arith
