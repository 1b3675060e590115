-- What is read and told, for callers. Assumes nothing.
use Prim.Native.Nat.{ℕ, zero, suc, ◌+◌, ◌≤◌, ◌<◌, min}
use mathlib.Core.Path.{◌≡◌, refl, sym, ap, ◌∙◌}
use mathlib.Core.Bool.{Bool, true, false, cond}
use mathlib.Core.List.{List, [], ◌∷◌, ◌++◌, append_assoc}
use native.Mathlib.Omega.{arith}
use lib.Dec.{leb, ltb}
use lib.ListN.{length, drop, length-append, length-drop}
use lib.Seq.{drop-append_seam}
use borrow.Author.Tests.{ltb-true, ltb-false, lt-ltb, le-ltb, le-leb, lt-leb, leb-true, leb-false}
use Rattle.lang.specs.Re.{in_c}
use Rattle.lang.specs.Digits.{value_from}
use Rattle.lang.proofs.Lits.{in→, →in}
use Rattle.lang.proofs.Tests.{t_is}
use Rattle.rules.specs.Bytes.{digit}
use Rattle.rules.specs.Numbers.{digits}
use Rattle.rules.specs.Texts.{first_in}
use Rattle.rules.specs.Decimals.{whole, last_digits, point_text, decimal_text}
use Rattle.rules.specs.Confidences.{ZeroPoint}
use Rattle.rules.specs.House.{billionths}
use Rattle.rules.specs.Decimals as rules
use Rattle.rules.proofs.Digits.{digits_value, digits_small}
use Rattle.rules.proofs.Digits as D
use Rattle.rules.proofs.Fractions.{value_back, last_length, last_digits_lem}
use Rattle.rules.proofs.Confidences.{whole_zero}
use Rattle.numbers.specs.declared.Decimal.{Decimal}
use Rattle.numbers.specs.Leading.{leading, number_of}
use Rattle.numbers.specs.Making.{made_of, ruled}
use Rattle.numbers.specs.declared.FirstByte.{FirstByte}
use Rattle.numbers.specs.declared.FirstByte.TheVariants.{Digit, DigitOrPoint}
use Rattle.numbers.specs.Points.{point, fraction, pointed, decimal_from, nothing_read, decimal_of}
use Rattle.numbers.specs.Shares.{largest, billionths_of}
use Rattle.numbers.proofs.Leads.{leading_silent, leading_read, leading_within, all_digits_lem}
use Rattle.numbers.proofs.Points.{fraction_within}

-- ---- numbers

-- a number begins with a digit
pub number_begins : (n : ℕ) (k : List ℕ) → first_in digit (digits n ++ k) ≡ true
number_begins zero k = rw (digits_small 0 (omega arith))
number_begins (suc n) k =
    let l = D.leading (suc n) (omega arith) in
    let g = in→ 49 57 l.first l.nonzero in
    rw l.is (t_is (in_c digit l.first) (→in 48 57 l.first (omega arith) (omega arith)))

pub number_read : (n : ℕ) (k : List ℕ) → first_in digit k ≡ false → number_of (digits n ++ k) ≡ record { value = min n 1000000; len = length (digits n) }
unfolding number_of
number_read n k e = rw (leading_read (digits n) k (all_digits_lem n) e, digits_value n)

pub number_silent : (k : List ℕ) → first_in digit k ≡ false → number_of k ≡ record { value = 0; len = 0 }
unfolding number_of value_from
number_silent k e = rw (leading_silent k e)

pub number_within : (s : List ℕ) → (number_of s).len ≤ length s
unfolding number_of
number_within s = leading_within s

pub number_most : (s : List ℕ) → (number_of s).value ≤ 1000000
unfolding number_of
number_most s = omega arith

-- a test against a bound below a million tells of the number what it tells of the value
pub number_past : (n bound : ℕ) → bound < 1000000 → ltb bound (min n 1000000) ≡ ltb bound n
number_past n bound h = go (ltb bound n) refl
  where
    go : (t : Bool) → ltb bound n ≡ t → ltb bound (min n 1000000) ≡ t
    go true e = let l = ltb-true bound n e in lt-ltb bound (min n 1000000) (omega arith)
    go false e = let l = ltb-false bound n e in le-ltb bound (min n 1000000) (omega arith)

-- ---- decimals

from_within : (s : List ℕ) → (decimal_from s).len ≤ length s
unfolding decimal_from
from_within s =
    let n = length (leading s) in
    omega (arith, leading_within s, fraction_within (drop n s), length-drop n s)

pub decimal_within : (first : FirstByte) (s : List ℕ) → (decimal_of first s).len ≤ length s
unfolding decimal_of
decimal_within Digit s = by (first_in digit s)
  where
    by : (b : Bool) → (cond b (decimal_from s) nothing_read).len ≤ length s
    by true = from_within s
    by false = omega arith
decimal_within DigitOrPoint s = from_within s

-- the text behind the whole number begins with no digit
no_digit : (n v : ℕ) (k : List ℕ) → first_in digit k ≡ false → first_in digit (point_text n v ++ k) ≡ false
unfolding point_text
no_digit zero v k e = e
no_digit (suc n) v k e = refl

fraction_silent : (k : List ℕ) → first_in point k ≡ false → fraction k ≡ []
unfolding fraction
fraction_silent [] e = refl
fraction_silent (b ∷ k) e = rw e

fraction_read : (n v : ℕ) (k : List ℕ) → first_in digit k ≡ false → first_in point k ≡ false → fraction (point_text n v ++ k) ≡ last_digits n v
unfolding point_text fraction last_digits
fraction_read zero v k e p = fraction_silent k p
fraction_read (suc n) v k e p = leading_read (last_digits (suc n) v) k (last_digits_lem (suc n) v) e

pointed_length : (n v : ℕ) → pointed (last_digits n v) ≡ length (point_text n v)
unfolding point_text pointed last_digits
pointed_length zero v = refl
pointed_length (suc n) v = refl

value_read : (n v : ℕ) → value_from (value_from 0 (digits (whole n v))) (last_digits n v) ≡ v
value_read n v = rw (digits_value (whole n v)) (value_back n v)

from_read : (d : rules.Decimal) (k : List ℕ) → first_in digit k ≡ false → first_in point k ≡ false
    → decimal_from (decimal_text d ++ k) ≡ record { made = made_of d.value d.places; len = length (decimal_text d) }
unfolding decimal_from
from_read d k e p =
    let v = d.value in
    let n = d.places in
    let w = digits (whole n v) in
    let t = point_text n v in
    let l : leading (w ++ (t ++ k)) ≡ w = leading_read w (t ++ k) (all_digits_lem (whole n v)) (no_digit n v k e) in
    rw (append_assoc w t k, l, drop-append_seam w (t ++ k), fraction_read n v k e p, value_read n v, last_length n v, pointed_length n v)
    (ap (λ (z : ℕ). record { made = made_of v n; len = z }) (sym (length-append w t)))

-- a decimal begins with a digit
pub decimal_begins : (d : rules.Decimal) (k : List ℕ) → first_in digit (decimal_text d ++ k) ≡ true
decimal_begins d k =
    let w = whole d.places d.value in
    let t = point_text d.places d.value in
    ap (first_in digit) (append_assoc (digits w) t k) ∙ number_begins w (t ++ k)

-- whatever its user takes
pub decimal_read : (first : FirstByte) (d : rules.Decimal) (k : List ℕ) → first_in digit k ≡ false → first_in point k ≡ false
    → decimal_of first (decimal_text d ++ k) ≡ record { made = made_of d.value d.places; len = length (decimal_text d) }
unfolding decimal_of
decimal_read Digit d k e p = rw (decimal_begins d k) (from_read d k e p)
decimal_read DigitOrPoint d k e p = from_read d k e p

-- without the 0 before its point, where a point will do
pub point_read : (z : ZeroPoint) (k : List ℕ) → first_in digit k ≡ false → first_in point k ≡ false
    → decimal_of DigitOrPoint (point_text z.decimal.places z.decimal.value ++ k)
    ≡ record { made = made_of z.decimal.value z.decimal.places; len = length (point_text z.decimal.places z.decimal.value) }
unfolding decimal_of decimal_from value_from
point_read z k e p =
    let v = z.decimal.value in
    let n = z.decimal.places in
    let w : value_from 0 (last_digits n v) ≡ v = ap (λ (x : ℕ). value_from x (last_digits n v)) (sym (whole_zero z)) ∙ value_back n v in
    rw (leading_silent (point_text n v ++ k) (no_digit n v k e), fraction_read n v k e p, w, last_length n v, pointed_length n v)
    (ap (λ (x : ℕ). record { made = made_of v n; len = x }) (omega arith))

-- ---- billionths

pub billionths_exact : (d : Decimal) → billionths (ruled d) ≤ largest → billionths_of d ≡ billionths (ruled d)
unfolding billionths_of
billionths_exact d h = omega arith

-- a test of a sum against a bound below the largest tells of the decimal what it tells of the value
pub billionths_sum : (d : Decimal) (sum bound : ℕ) → bound < largest → leb (sum + billionths_of d) bound ≡ leb (sum + billionths (ruled d)) bound
unfolding billionths_of
billionths_sum d sum bound h = go (billionths (ruled d)) (leb (sum + billionths (ruled d)) bound) refl
  where
    go : (b : ℕ) (t : Bool) → leb (sum + b) bound ≡ t → leb (sum + min b largest) bound ≡ t
    go b true e = let l = leb-true (sum + b) bound e in le-leb (sum + min b largest) bound (omega arith)
    go b false e = let l = leb-false (sum + b) bound e in lt-leb (sum + min b largest) bound (omega arith)

pub billionths_test : (d : Decimal) (bound : ℕ) → bound < largest → leb (billionths_of d) bound ≡ leb (billionths (ruled d)) bound
billionths_test d bound h =
    let e : (n : ℕ) → 0 + n ≡ n = λ n. omega arith in
    ap (λ (n : ℕ). leb n bound) (sym (e (billionths_of d))) ∙ billionths_sum d 0 bound h ∙ ap (λ (n : ℕ). leb n bound) (e (billionths (ruled d)))
