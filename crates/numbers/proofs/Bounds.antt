-- The bounds of a decimal, as bounds of its value and its places. Assumes nothing.
use Prim.Native.Nat.{ℕ, zero, suc, ◌+◌, ◌-◌, ◌*◌, ◌/◌, ◌%◌, ◌^◌, ◌≤◌, ◌<◌}
use mathlib.Core.Path.{◌≡◌, refl, sym, ap, ◌∙◌}
use mathlib.Core.Bool.{Bool, true, false, cond, ◌&&◌}
use mathlib.Core.List.{[], ◌∷◌}
use native.Mathlib.Omega.{arith}
use native.Mathlib.Nat.{pow-suc, one-le-pow}
use native.Mathlib.Decide.{dec_lt}
use lib.Dec.{T, leb, ltb}
use lib.ListN.{length, length-append}
use lib.Pow.{pow-add}
use borrow.Author.Tests.{lt-ltb, le-ltb, le-leb, lt-leb, leb-true, ltb-true}
use Rattle.lang.proofs.Tests.{is_t}
use Rattle.rules.specs.Numbers.{digits}
use Rattle.rules.specs.Decimals.{whole}
use Rattle.rules.specs.Limits.{fits, max_places, max_digits}
use Rattle.rules.proofs.Digits.{digits_small, digits_big}
use Rattle.numbers.specs.declared.Decimal.{Decimal}
use Rattle.std.specs.Prelude.{Option, Some, None}
use Rattle.numbers.specs.Making.{zero_decimal, ruled, made_of, made_decimal}

-- ---- how many_digits digits a number has

one_digit : (n : ℕ) → n < 10 → length (digits n) ≡ 1
one_digit n h = ap length (digits_small n h)

pub more_digits : (n : ℕ) → 10 ≤ n → length (digits n) ≡ length (digits (n / 10)) + 1
more_digits n h = ap length (digits_big n h) ∙ length-append (digits (n / 10)) ((48 + n % 10) ∷ [])

pub some_digits : (n : ℕ) → 1 ≤ length (digits n)
some_digits n = go (dec_lt n 10)
  where
    go : Dec (n < 10) → 1 ≤ length (digits n)
    go (yes h) = omega (arith, one_digit n h)
    go (no h) = omega (arith, more_digits n (omega arith))

pub digits_below : (k n : ℕ) → n < 10 ^ suc k → length (digits n) ≤ suc k
digits_below zero n h = omega (arith, one_digit n h)
digits_below (suc k) n h = go (digits_below k (n / 10) (omega (arith, pow-suc 10 (suc k)))) (dec_lt n 10)
  where
    go : length (digits (n / 10)) ≤ suc k → Dec (n < 10) → length (digits n) ≤ suc (suc k)
    go i (yes l) = omega (arith, one_digit n l)
    go i (no l) = omega (arith, more_digits n (omega arith))

many_digits : (k n : ℕ) → 10 ^ suc k ≤ n → suc k < length (digits n)
many_digits zero n h = omega (arith, more_digits n h, some_digits (n / 10))
many_digits (suc k) n h =
    let p = pow-suc 10 (suc k) in
    let i = many_digits k (n / 10) (omega arith) in
    omega (arith, more_digits n (omega (arith, one-le-pow (suc k) 10 (omega arith))))

-- ---- a number without its last digits

shift : (m p : ℕ) → m * 10 ^ suc p ≡ m * 10 * 10 ^ p
shift m p = rw (pow-suc 10 p) (omega arith)

pub whole_lt : (p v m : ℕ) → v < m * 10 ^ p → whole p v < m
unfolding whole
whole_lt zero v m h = omega arith
whole_lt (suc p) v m h = let i = whole_lt p v (m * 10) (omega (arith, shift m p)) in omega arith

pub whole_ge : (p v m : ℕ) → m * 10 ^ p ≤ v → m ≤ whole p v
unfolding whole
whole_ge zero v m h = omega arith
whole_ge (suc p) v m h = let i = whole_ge p v (m * 10) (omega (arith, shift m p)) in omega arith

-- ---- the bounds of a decimal

module _ (v p : ℕ) (h : p ≤ max_places) where
  parts : 10 ^ suc (max_digits - 1 - p) * 10 ^ p ≡ 10 ^ max_digits
  parts = let e : suc (max_digits - 1 - p) + p ≡ max_digits = omega arith in sym (pow-add 10 (suc (max_digits - 1 - p)) p) ∙ ap (λ (n : ℕ). 10 ^ n) e

  few_digits : leb (length (digits (whole p v)) + p) max_digits ≡ ltb v (10 ^ max_digits)
  few_digits = go (dec_lt v (10 ^ max_digits))
    where
      go : Dec (v < 10 ^ max_digits) → leb (length (digits (whole p v)) + p) max_digits ≡ ltb v (10 ^ max_digits)
      go (yes l) =
          let f = digits_below (max_digits - 1 - p) (whole p v) (whole_lt p v (10 ^ suc (max_digits - 1 - p)) (omega (arith, parts))) in
          le-leb (length (digits (whole p v)) + p) max_digits (omega arith) ∙ sym (lt-ltb v (10 ^ max_digits) l)
      go (no l) =
          let g : 10 ^ max_digits ≤ v = omega arith in
          let f = many_digits (max_digits - 1 - p) (whole p v) (whole_ge p v (10 ^ suc (max_digits - 1 - p)) (omega (arith, parts))) in
          lt-leb (length (digits (whole p v)) + p) max_digits (omega arith) ∙ sym (le-ltb v (10 ^ max_digits) g)

-- a decimal fits exactly where it has no more places than it may, and its value is below 10 ^ max_digits
pub fits_is : (v p : ℕ) → fits (record { value = v; places = p }) ≡ leb p max_places && ltb v (10 ^ max_digits)
fits_is v p = go (leb p max_places) refl
  where
    go : (t : Bool) → leb p max_places ≡ t → leb p max_places && leb (length (digits (whole p v)) + p) max_digits ≡ leb p max_places && ltb v (10 ^ max_digits)
    go true e = rw e (few_digits v p (leb-true p max_places e))
    go false e = rw e

pub made_is : (v p : ℕ) → made_of v p ≡ cond (leb p max_places && ltb v (10 ^ max_digits)) (Some (record { value = v; places = p })) None
unfolding made_of
made_is v p = ap (λ (t : Bool). cond t (Some (record { value = v; places = p })) None) (fits_is v p)

pub made_fits : (v p : ℕ) → p ≤ max_places → v < 10 ^ max_digits → made_of v p ≡ Some (record { value = v; places = p })
made_fits v p h g = made_is v p ∙ rw (le-leb p max_places h, lt-ltb v (10 ^ max_digits) g)

pub made_long : (v p : ℕ) → max_places < p → made_of v p ≡ None
made_long v p h = made_is v p ∙ rw (lt-leb p max_places h)

pub made_large : (v p : ℕ) → 10 ^ max_digits ≤ v → made_of v p ≡ None
made_large v p h = made_is v p ∙ rw (le-ltb v (10 ^ max_digits) h) (go (leb p max_places))
  where
    go : (t : Bool) → cond {A = Option Decimal} (t && false) (Some (record { value = v; places = p })) None ≡ None
    go true = refl
    go false = refl

-- ---- back from what was made

pub fits_within : (v p : ℕ) → fits (record { value = v; places = p }) ≡ true → (v < 10 ^ max_digits) × (p ≤ max_places)
fits_within v p e = go (leb p max_places) refl (ltb v (10 ^ max_digits)) refl (sym (fits_is v p) ∙ e)
  where
    go : (s : Bool) → leb p max_places ≡ s → (t : Bool) → ltb v (10 ^ max_digits) ≡ t → leb p max_places && ltb v (10 ^ max_digits) ≡ true → (v < 10 ^ max_digits) × (p ≤ max_places)
    go true a true b q = (ltb-true v (10 ^ max_digits) b, leb-true p max_places a)
    go true a false b q = let z : ◌≡◌ {A = ℕ} 0 1 = cc in omega arith
    go false a t b q = let z : ◌≡◌ {A = ℕ} 0 1 = cc in omega arith

pub made_back : (v p : ℕ) (d : Decimal) → made_of v p ≡ Some d → (fits (record { value = v; places = p }) ≡ true) × (d ≡ record { value = v; places = p })
unfolding made_of
made_back v p d e = go (fits (record { value = v; places = p })) refl e
  where
    go : (t : Bool) → fits (record { value = v; places = p }) ≡ t → cond t (Some (record { value = v; places = p })) None ≡ Some d
        → (fits (record { value = v; places = p }) ≡ true) × (d ≡ record { value = v; places = p })
    go true q f = (q, cc)
    go false q f = (cc, cc)

pub past_back : (v p : ℕ) → made_of v p ≡ None → fits (record { value = v; places = p }) ≡ false
unfolding made_of
past_back v p e = go (fits (record { value = v; places = p })) refl e
  where
    go : (t : Bool) → fits (record { value = v; places = p }) ≡ t → cond {A = Option Decimal} t (Some (record { value = v; places = p })) None ≡ None
        → fits (record { value = v; places = p }) ≡ false
    go true q f = cc
    go false q f = q

-- ---- no decimal but within the bounds: what the constructor makes, 0, and so what is told of each answer

pub made_within : (v p : ℕ) (d : Decimal) → made_of v p ≡ Some d → T (fits (ruled d))
made_within v p d e = let b = made_back v p d e in is_t (ap (λ (x : Decimal). fits (ruled x)) b.1 ∙ b.0)

pub zero_within : T (fits (ruled zero_decimal))
zero_within = rw (fits_is 0 0) tt

pub told_within : (v p : ℕ) → T (fits (ruled (made_decimal (made_of v p))))
unfolding made_of
told_within v p = go (fits (record { value = v; places = p })) refl
  where
    go : (t : Bool) → fits (record { value = v; places = p }) ≡ t → T (fits (ruled (made_decimal (cond t (Some (record { value = v; places = p })) None))))
    go true e = is_t e
    go false e = zero_within
