-- Digits and decimals put at a cursor, digit by digit. Assumes nothing.
use Prim.Native.Nat.{ℕ, zero, suc, ◌+◌, ◌-◌, ◌/◌, ◌%◌, ◌≤◌, ◌<◌}
use mathlib.Core.Path.{◌≡◌, refl, sym, ap, ap₂, ◌∙◌}
use mathlib.Core.List.{List, [], ◌∷◌, ◌++◌, append-nil}
use native.Mathlib.Omega.{arith}
use native.Mathlib.Numerals.{add-one}
use lib.ListN.{length}
use Rattle.rules.specs.Numbers.{digits}
use Rattle.rules.specs.Decimals.{whole, last_digits, point_text}
use Rattle.rules.proofs.Digits.{digits_small, digits_big}
use Rattle.put_bytes.specs.Puts.{max_place, Put}
use Rattle.put_bytes.proofs.Putting.{put_none, put_then, put_as}

-- ---- numbers

pub put_digit : {d e : List ℕ} {at r : ℕ} (n : ℕ) → n < 10 → Put d at ((48 + n) ∷ []) e r → Put d at (digits n) e r
put_digit n h p = put_as p (sym (digits_small n h))

pub put_more : {d e f : List ℕ} {at p r : ℕ} (n : ℕ) → 10 ≤ n → Put d at (digits (n / 10)) e p → Put e p ((48 + n % 10) ∷ []) f r → Put d at (digits n) f r
put_more n h a b = put_as (put_then a b) (sym (digits_big n h))

-- ---- places

whole_less : (n v : ℕ) → whole n (v / 10) ≡ whole n v / 10
unfolding whole
whole_less zero v = refl
whole_less (suc n) v = ap (λ (x : ℕ). x / 10) (whole_less n v)

last_more : (n v : ℕ) → last_digits (suc n) v ≡ last_digits n (v / 10) ++ ((48 + v % 10) ∷ [])
unfolding last_digits whole
last_more zero v = refl
last_more (suc n) v = ap₂ ◌∷◌ (ap (λ (x : ℕ). 48 + x % 10) (sym (whole_less n v))) (last_more n v)

pub put_no_place : {d : List ℕ} {at : ℕ} (v n : ℕ) → length d ≤ max_place → at ≤ max_place → n < 1 → Put d at (last_digits n v) d at
unfolding last_digits
put_no_place v n h g z = let e : n ≡ 0 = omega arith in rw e (put_none h g)

pub put_place_more : {d e f : List ℕ} {at p r : ℕ} (v n : ℕ) → 1 ≤ n → Put d at (last_digits (n - 1) (v / 10)) e p → Put e p ((48 + v % 10) ∷ []) f r
    → Put d at (last_digits n v) f r
put_place_more v n h a b =
    let q : n ≡ suc (n - 1) = omega arith in
    put_as (put_then a b) (sym (last_more (n - 1) v) ∙ ap (λ (x : ℕ). last_digits x v) (sym q))

-- ---- decimals

module _ {d e : List ℕ} {at p : ℕ} (v n : ℕ) where
  pub put_whole : Put d at (digits (whole n v)) e p → n < 1 → Put d at (digits (whole n v) ++ point_text n v) e p
  unfolding point_text
  put_whole a h =
      let z : n ≡ 0 = omega arith in
      put_as a (sym (ap (λ (x : ℕ). digits (whole n v) ++ point_text x v) z ∙ append-nil (digits (whole n v))))

  pub put_pointed : {f g : List ℕ} {q r : ℕ} → Put d at (digits (whole n v)) e p → 1 ≤ n → Put e p (46 ∷ []) f q → Put f q (last_digits n v) g r
      → Put d at (digits (whole n v) ++ point_text n v) g r
  unfolding point_text
  put_pointed a h b c = put_then a (put_as (put_then b c) (point n h))
    where
      point : (m : ℕ) → 1 ≤ m → 46 ∷ last_digits m v ≡ point_text m v
      point zero h = absurd (omega arith)
      point (suc m) h = refl

-- ---- the walk over the last digits

pub whole_turn : {rest : ℕ} (v i : ℕ) → rest ≡ whole i v → rest / 10 ≡ whole (i + 1) v
unfolding whole
whole_turn v i e = rw (add-one i) (ap (λ (x : ℕ). x / 10) e)
