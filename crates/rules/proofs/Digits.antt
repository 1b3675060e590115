-- Laws of the digits of a number: how they grow, and that they fix the number. Assumes nothing.
use Prim.Native.Nat.{ℕ, zero, suc, ◌+◌, ◌-◌, ◌*◌, ◌/◌, ◌%◌, ◌≤◌, ◌<◌}
use mathlib.Core.Path.{◌≡◌, refl, sym, ap, ◌∙◌}
use mathlib.Core.Bool.{Bool, true, false}
use mathlib.Core.List.{List, [], ◌∷◌, ◌++◌, append_assoc, append-nil}
use native.Mathlib.Omega.{arith}
use native.Mathlib.Decide.{dec_le}
use native.Mathlib.Nat.{le_refl, le_trans, not-suc-le-zero}
use lib.Dec.{T, ltb}
use lib.ListN.{length, length-append}
use borrow.Author.Tests.{ltb-true, ltb-false, lt-ltb, le-ltb}
use Rattle.lang.specs.Re.{in_c}
use Rattle.lang.specs.Digits.{value_from}
use Rattle.lang.specs.Parts.{all}
use Rattle.lang.proofs.Deriv.{and_0, and_1, and_i}
use Rattle.lang.proofs.Lits.{in→, →in}
use Rattle.rules.specs.Bytes.{◌to◌, digit}
use Rattle.rules.specs.Numbers.{digits_in, digits}

fuel : (f g n : ℕ) → n < f → n < g → digits_in f n ≡ digits_in g n
unfolding digits_in
fuel zero g n hf hg = absurd (not-suc-le-zero hf)
fuel (suc f) zero n hf hg = absurd (not-suc-le-zero hg)
fuel (suc f) (suc g) n hf hg = go (λ h. fuel f g (n / 10) (omega arith) (omega arith)) (ltb n 10) refl
  where
    go : (10 ≤ n → digits_in f (n / 10) ≡ digits_in g (n / 10)) → (t : Bool) → ltb n 10 ≡ t → digits_in (suc f) n ≡ digits_in (suc g) n
    go ih true e = rw e
    go ih false e = rw (e, ih (ltb-false n 10 e))

pub digits_small : (n : ℕ) → n < 10 → digits n ≡ (48 + n) ∷ []
unfolding digits digits_in
digits_small n h = rw (lt-ltb n 10 h)

pub digits_big : (n : ℕ) → 10 ≤ n → digits n ≡ digits (n / 10) ++ (48 + n % 10) ∷ []
unfolding digits digits_in
digits_big n h = rw (le-ltb n 10 h, fuel n (suc (n / 10)) (n / 10) (omega arith) (omega arith))

pub digits_step : (a d : ℕ) → 1 ≤ a → d < 10 → digits (a * 10 + d) ≡ digits a ++ (48 + d) ∷ []
digits_step a d ha hd =
    let q : (a * 10 + d) / 10 ≡ a = omega arith in
    let m : (a * 10 + d) % 10 ≡ d = omega arith in
    digits_big (a * 10 + d) (omega arith) ∙ rw (q, m)

pub value_le : (a : ℕ) (w : List ℕ) → a ≤ value_from a w
unfolding value_from
value_le a [] = le_refl a
value_le a (b ∷ w) = le_trans (omega arith) (value_le (a * 10 + (b - 48)) w)

pub value_append : (a : ℕ) (v w : List ℕ) → value_from a (v ++ w) ≡ value_from (value_from a v) w
unfolding value_from
value_append a [] w = refl
value_append a (b ∷ v) w = value_append (a * 10 + (b - 48)) v w

value_last : (a d : ℕ) → value_from a ((48 + d) ∷ []) ≡ a * 10 + d
unfolding value_from
value_last a d = let e : 48 + d - 48 ≡ d = omega arith in rw e

value_in : (f n : ℕ) → n < f → value_from 0 (digits n) ≡ n
value_in zero n h = absurd (not-suc-le-zero h)
value_in (suc f) n h = go (λ i. value_in f (n / 10) (omega arith)) (ltb n 10) refl
  where
    go : (10 ≤ n → value_from 0 (digits (n / 10)) ≡ n / 10) → (t : Bool) → ltb n 10 ≡ t → value_from 0 (digits n) ≡ n
    go ih true e = rw (digits_small n (ltb-true n 10 e)) (value_last 0 n ∙ omega arith)
    go ih false e =
        let i : 10 ≤ n = ltb-false n 10 e in
        rw (digits_big n i, value_append 0 (digits (n / 10)) ((48 + n % 10) ∷ []), ih i, value_last (n / 10) (n % 10)) (omega arith)

pub digits_value : (n : ℕ) → value_from 0 (digits n) ≡ n
digits_value n = value_in (suc n) n (omega arith)

-- no two numbers have the same digits
pub one_number : (m n : ℕ) → digits m ≡ digits n → m ≡ n
one_number m n e = sym (digits_value m) ∙ ap (value_from 0) e ∙ digits_value n

-- more digits after those of a number
pub value_digits : (a : ℕ) (w : List ℕ) → 1 ≤ a → T (all digit w) → digits (value_from a w) ≡ digits a ++ w
unfolding value_from
value_digits a [] h t = sym (append-nil (digits a))
value_digits a (b ∷ w) h t =
    let g = in→ 48 57 b (and_0 (in_c digit b) (all digit w) t) in
    let e : 48 + (b - 48) ≡ b = omega arith in
    value_digits (a * 10 + (b - 48)) w (omega arith) (and_1 (in_c digit b) (all digit w) t)
    ∙ rw (digits_step a (b - 48) h (omega arith), e) (append_assoc (digits a) (b ∷ []) w)

-- of a number of at least 1, the first digit is not 0
pub record Leading (n : ℕ) : Type 0 where
  pub first : ℕ
  pub rest : List ℕ
  pub is : digits n ≡ first ∷ rest
  pub nonzero : T (in_c ("1" to "9" ∷ []) first)
  pub others : T (all digit rest)

pub all_append : (v w : List ℕ) → T (all digit v) → T (all digit w) → T (all digit (v ++ w))
all_append [] w h t = t
all_append (a ∷ v) w h t =
    and_i (in_c digit a) (all digit (v ++ w)) (and_0 (in_c digit a) (all digit v) h) (all_append v w (and_1 (in_c digit a) (all digit v) h) t)

all_last : (w : List ℕ) (b : ℕ) → T (all digit w) → T (in_c digit b) → T (all digit (w ++ (b ∷ [])))
all_last w b h t = all_append w (b ∷ []) h (and_i (in_c digit b) true t tt)

lead_in : (f n : ℕ) → n < f → 1 ≤ n → Leading n
lead_in zero n h l = absurd (not-suc-le-zero h)
lead_in (suc f) n h l = go (λ i. lead_in f (n / 10) (omega arith) (omega arith)) (ltb n 10) refl
  where
    go : (10 ≤ n → Leading (n / 10)) → (t : Bool) → ltb n 10 ≡ t → Leading n
    go ih true e =
        let s : n < 10 = ltb-true n 10 e in
        record { first = 48 + n; rest = []; is = digits_small n s; nonzero = →in 49 57 (48 + n) (omega arith) (omega arith); others = tt }
    go ih false e =
        let i : 10 ≤ n = ltb-false n 10 e in
        let r = ih i in
        record {
          first = r.first;
          rest = r.rest ++ ((48 + n % 10) ∷ []);
          is = digits_big n i ∙ ap (λ (x : List ℕ). x ++ ((48 + n % 10) ∷ [])) r.is;
          nonzero = r.nonzero;
          others = all_last r.rest (48 + n % 10) r.others (→in 48 57 (48 + n % 10) (omega arith) (omega arith));
        }

pub leading : (n : ℕ) → 1 ≤ n → Leading n
leading n h = lead_in (suc n) n (omega arith) h

-- a digit that is not 0, and digits, are the digits of a number of at least 1
pub read_back : (b : ℕ) (w : List ℕ) → 49 ≤ b → b ≤ 57 → T (all digit w) → digits (value_from (b - 48) w) ≡ b ∷ w
read_back b w l h t =
    let e : 48 + (b - 48) ≡ b = omega arith in
    value_digits (b - 48) w (omega arith) t ∙ rw (digits_small (b - 48) (omega arith), e)

-- a number has a digit or more
pub digits_some : (n : ℕ) → 0 < length (digits n)
digits_some n = by (dec_le 10 n)
  where
    by : Dec (10 ≤ n) → 0 < length (digits n)
    by (yes h) = rw (digits_big n h) (omega (arith, length-append (digits (n / 10)) ((48 + n % 10) ∷ [])))
    by (no h) = rw (digits_small n (omega arith)) (omega arith)

-- each digit of a number is a digit
all_in : (f n : ℕ) → n < f → T (all digit (digits n))
all_in zero n h = absurd (not-suc-le-zero h)
all_in (suc f) n h = by (dec_le 10 n) (λ i. all_in f (n / 10) (omega arith))
  where
    by : Dec (10 ≤ n) → (10 ≤ n → T (all digit (digits (n / 10)))) → T (all digit (digits n))
    by (yes i) ih = rw (digits_big n i) (all_last (digits (n / 10)) (48 + n % 10) (ih i) (→in 48 57 (48 + n % 10) (omega arith) (omega arith)))
    by (no i) ih = rw (digits_small n (omega arith)) (all_last [] (48 + n) tt (→in 48 57 (48 + n) (omega arith) (omega arith)))

pub digits_all : (n : ℕ) → T (all digit (digits n))
digits_all n = all_in (suc n) n (omega arith)
