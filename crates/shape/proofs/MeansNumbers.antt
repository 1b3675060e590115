-- Numbers and decimals are what the grammar says. Assumes nothing.
use Prim.Native.Nat.{ℕ, zero, suc, ◌+◌, ◌-◌, ◌*◌, ◌%◌, ◌≤◌}
use mathlib.Core.Path.{◌≡◌, refl, sym, ap, ap₂, ◌∙◌}
use mathlib.Core.List.{List, [], ◌∷◌, ◌++◌, tail-eq_of_cons-eq, nil≢cons, cons≢nil}
use mathlib.Core.Logic.{inl, inr}
use mathlib.Core.HLevel.{is_prop→PathP}
use native.Mathlib.Omega.{arith}
use native.Mathlib.Nat.{le_trans}
use native.Mathlib.Decide.{dec_le}
use lib.Dec.{T, T_prop, eqb, leb, leb→le, le→leb}
use borrow.Author.Tests.{eq-eqb}
use lib.ListN.{length}
use Rattle.lang.specs.Re.{Rng, in_c, Re, Tree, text}
use Rattle.lang.specs.Digits.{value_from}
use Rattle.lang.specs.Parts.{Such, all}
use Rattle.lang.proofs.Deriv.{and_0, and_1, and_i}
use Rattle.lang.proofs.Tests.{is_t}
use Rattle.lang.proofs.Lits.{one_eq, in→, →in}
use Rattle.lang.proofs.Means.{Means, opt_re, means_one, means_pair, means_as}
use Rattle.lang.proofs.Names.{head_enc, head_dec}
use Rattle.rules.specs.Bytes.{◌to◌, digit}
use Rattle.rules.specs.Numbers.{digits, From, Number, number_text}
use Rattle.rules.specs.Decimals.{Decimal, whole, last_digits, point_text, decimal_text}
use Rattle.rules.specs.Confidences.{ZeroPoint}
use Rattle.rules.proofs.Digits.{value_le, digits_small, one_number, leading, read_back}
use Rattle.rules.proofs.Fractions.{whole_from, last_from, value_back, last_length, last_digits_lem}
use Rattle.rules.proofs.Confidences.{zero_point_path, whole_zero, places_some}
use Rattle.rules.proofs.Shortened.{from_path}
use Rattle.shape.proofs.Grammar.{number_re, two_re, nat_re, point_re, decimal_re}

-- n has a tree, and a tree has an n of at least m
abbrev Tree-of : Re → ℕ → Type 0
Tree-of r n = (t : Tree r) × ((k : List ℕ) → text r t k ≡ digits n ++ k)

abbrev Number-of : ℕ → (r : Re) → Tree r → Type 0
Number-of m r t = (n : ℕ) × (m ≤ n) × ((k : List ℕ) → text r t k ≡ digits n ++ k)

means_from : (m : ℕ) (r : Re) → ((n : ℕ) → m ≤ n → Tree-of r n) → ((t : Tree r) → Number-of m r t) → Means (From m) number_text r
means_from m r e d =
    means_one (λ x y p. from_path x y (one_number x.value y.value p)) (λ x. e x.value (leb→le m x.value x.least))
    (λ t. (record { value = (d t).0; least = le→leb m (d t).0 (d t).1 }, (d t).2))

-- the bytes of a tree are the digits of n
as_digits : {f : List ℕ → List ℕ} (n : ℕ) (l : List ℕ) → digits n ≡ l → ((k : List ℕ) → f k ≡ l ++ k) → (k : List ℕ) → f k ≡ digits n ++ k
as_digits n l p h k = h k ∙ ap (λ (x : List ℕ). x ++ k) (sym p)

-- ---- at least 1

abbrev one_nine : List Rng
one_nine = "1" to "9" ∷ []

one_nine_digit : (b : ℕ) → T (in_c one_nine b) → T (in_c digit b)
one_nine_digit b t = let g = in→ 49 57 b t in →in 48 57 b (omega arith) g.1

number_enc : (n : ℕ) → 1 ≤ n → Tree-of number_re n
number_enc n h =
    let l = leading n h in
    let x = head_enc digit one_nine l.first l.rest l.nonzero l.others in
    (x.0, as_digits n (l.first ∷ l.rest) l.is x.1)

number_dec : (t : Tree number_re) → Number-of 1 number_re t
number_dec t =
    let x = head_dec digit one_nine one_nine_digit t in
    let g = in→ 49 57 x.0 x.3 in
    let n = value_from (x.0 - 48) x.1 in (
      n,
      le_trans (omega arith) (value_le (x.0 - 48) x.1),
      as_digits n (x.0 ∷ x.1) (read_back x.0 x.1 g.0 g.1 (and_1 (in_c digit x.0) (all digit x.1) x.2)) x.4,
    )

pub means_number : Means Number number_text number_re
means_number = means_from 1 number_re number_enc number_dec

-- ---- at least 2

abbrev two_nine : List Rng
two_nine = "2" to "9" ∷ []

two_nine_digit : (b : ℕ) → T (in_c two_nine b) → T (in_c digit b)
two_nine_digit b t = let g = in→ 50 57 b t in →in 48 57 b (omega arith) g.1

not_one : (n : ℕ) → 2 ≤ n → digits n ≡ 49 ∷ [] → ⊥
not_one n h e = let p : n ≡ 1 = one_number n 1 (e ∙ sym (digits_small 1 (omega arith))) in omega arith

two_pick : (n b : ℕ) (w : List ℕ) → digits n ≡ b ∷ w → 2 ≤ n → T (in_c one_nine b) → T (all digit w) → Dec (50 ≤ b) → Tree-of two_re n
two_pick n b w p h i a (yes g) =
    let x = head_enc digit two_nine b w (→in 50 57 b g (in→ 49 57 b i).1) a in
    (inl x.0, as_digits n (b ∷ w) p x.1)
two_pick n b [] p h i a (no g) =
    let q = in→ 49 57 b i in
    let e : b ≡ 49 = omega arith in
    absurd (not_one n h (p ∙ ap (λ (x : ℕ). x ∷ []) e))
two_pick n b (d ∷ w) p h i a (no g) =
    let q = in→ 49 57 b i in
    let e : b ≡ 49 = omega arith in
    let x = head_enc digit digit d w (and_0 (in_c digit d) (all digit w) a) (and_1 (in_c digit d) (all digit w) a) in (
      inr (record { val = 49; is_in = tt }, x.0),
      as_digits n (49 ∷ d ∷ w) (p ∙ ap (λ (x : ℕ). x ∷ d ∷ w) e) (λ k. ap (λ (l : List ℕ). 49 ∷ l) (x.1 k)),
    )

two_enc : (n : ℕ) → 2 ≤ n → Tree-of two_re n
two_enc n h =
    let l = leading n (omega arith) in
    two_pick n l.first l.rest l.is h l.nonzero l.others (dec_le 50 l.first)

ten_more : (b : ℕ) (w : List ℕ) → 2 ≤ value_from 1 (b ∷ w)
unfolding value_from
ten_more b w = le_trans (omega arith) (value_le (1 * 10 + (b - 48)) w)

two_dec : (t : Tree two_re) → Number-of 2 two_re t
two_dec (inl t) =
    let x = head_dec digit two_nine two_nine_digit t in
    let g = in→ 50 57 x.0 x.3 in
    let n = value_from (x.0 - 48) x.1 in (
      n,
      le_trans (omega arith) (value_le (x.0 - 48) x.1),
      as_digits n (x.0 ∷ x.1) (read_back x.0 x.1 (omega arith) g.1 (and_1 (in_c digit x.0) (all digit x.1) x.2)) x.4,
    )
two_dec (inr (o, t)) =
    let x = head_dec digit digit (λ b i. i) t in
    let n = value_from 1 (x.0 ∷ x.1) in (
      n,
      ten_more x.0 x.1,
      as_digits n (49 ∷ x.0 ∷ x.1) (read_back 49 (x.0 ∷ x.1) (omega arith) (omega arith) x.2) (λ k. ap₂ ◌∷◌ (one_eq 49 o.val o.is_in) (x.4 k)),
    )

pub means_two : Means (From 2) number_text two_re
means_two = means_from 2 two_re two_enc two_dec

-- ---- any number

nat_pick : (n : ℕ) → Dec (1 ≤ n) → Tree-of nat_re n
nat_pick n (yes h) = let x = number_enc n h in (inr x.0, x.1)
nat_pick n (no h) =
    let e : n ≡ 0 = omega arith in
    (inl (record { val = 48; is_in = tt }), λ k. ap (λ (l : List ℕ). l ++ k) (sym (digits_small 0 (omega arith)) ∙ ap digits (sym e)))

nat_dec : (t : Tree nat_re) → (n : ℕ) × ((k : List ℕ) → text nat_re t k ≡ digits n ++ k)
nat_dec (inl z) = (0, λ k. ap (λ (x : ℕ). x ∷ k) (one_eq 48 z.val z.is_in) ∙ ap (λ (l : List ℕ). l ++ k) (sym (digits_small 0 (omega arith))))
nat_dec (inr t) = let x = number_dec t in (x.0, x.2)

pub means_nat : Means ℕ digits nat_re
means_nat = means_one one_number (λ n. nat_pick n (dec_le 1 n)) nat_dec

-- ---- decimals

-- a point and digits, or nothing
abbrev fraction : List ℕ → List ℕ
fraction [] = []
fraction (b ∷ w) = 46 ∷ b ∷ w

abbrev fraction_re : Re
fraction_re = opt_re point_re

abbrev Fraction : Type 0
Fraction = Such (all digit)

fraction_one : (v w : List ℕ) → fraction v ≡ fraction w → v ≡ w
fraction_one [] [] e = refl
fraction_one [] (b ∷ w) e = absurd (nil≢cons e)
fraction_one (a ∷ v) [] e = absurd (cons≢nil e)
fraction_one (a ∷ v) (b ∷ w) e = tail-eq_of_cons-eq e

fraction_path : (x y : Fraction) → fraction x.bytes ≡ fraction y.bytes → x ≡ y
fraction_path x y e =
    let p = fraction_one x.bytes y.bytes e in
    λ i. record { bytes = p i; good = is_prop→PathP (λ j. T (all digit (p j))) (λ j. T_prop (all digit (p j))) x.good y.good i }

fraction_enc : (w : List ℕ) → T (all digit w) → (t : Tree fraction_re) × ((k : List ℕ) → text fraction_re t k ≡ fraction w ++ k)
fraction_enc [] h = (inl tt, λ k. refl)
fraction_enc (b ∷ w) h =
    let x = head_enc digit digit b w (and_0 (in_c digit b) (all digit w) h) (and_1 (in_c digit b) (all digit w) h) in
    (inr (record { val = 46; is_in = tt }, x.0), λ k. ap (λ (l : List ℕ). 46 ∷ l) (x.1 k))

fraction_dec : (t : Tree fraction_re) → (x : Fraction) × ((k : List ℕ) → text fraction_re t k ≡ fraction x.bytes ++ k)
fraction_dec (inl t) = (record { bytes = []; good = tt }, λ k. refl)
fraction_dec (inr (p, t)) =
    let x = head_dec digit digit (λ b i. i) t in
    (record { bytes = x.0 ∷ x.1; good = x.2 }, λ k. ap₂ ◌∷◌ (one_eq 46 p.val p.is_in) (x.4 k))

means_fraction : Means Fraction (λ x. fraction x.bytes) fraction_re
means_fraction = means_one fraction_path (λ x. fraction_enc x.bytes x.good) fraction_dec

abbrev decimal_to : Decimal → ℕ × Fraction
decimal_to d = (whole d.places d.value, record { bytes = last_digits d.places d.value; good = last_digits_lem d.places d.value })

abbrev decimal_from_lem : ℕ × Fraction → Decimal
decimal_from_lem p = record { value = value_from p.0 p.1.bytes; places = length p.1.bytes }

point_fraction : (n v : ℕ) → fraction (last_digits n v) ≡ point_text n v
unfolding last_digits point_text
point_fraction zero v = refl
point_fraction (suc n) v = refl

decimal_from_text : (w : ℕ) (ds : List ℕ) → T (all digit ds) → digits w ++ fraction ds ≡ digits (whole (length ds) (value_from w ds)) ++ point_text (length ds) (value_from w ds)
decimal_from_text w ds t =
    ap₂ (λ (x : ℕ) (l : List ℕ). digits x ++ l) (sym (whole_from w ds t)) (ap fraction (sym (last_from w ds t)) ∙ point_fraction (length ds) (value_from w ds))

pub means_decimal : Means Decimal decimal_text decimal_re
means_decimal =
    means_as (means_pair means_nat means_fraction) decimal_to decimal_from_lem
    (λ d i. record { value = value_back d.places d.value i; places = last_length d.places d.value i })
    (λ d. ap (λ (l : List ℕ). digits (whole d.places d.value) ++ l) (point_fraction d.places d.value))
    (λ p. decimal_from_text p.0 p.1.bytes p.1.good)

-- ---- decimals without the 0 before their point

point_enc : (n v : ℕ) → 1 ≤ n → (t : Tree point_re) × ((k : List ℕ) → text point_re t k ≡ point_text n v ++ k)
unfolding point_text last_digits
point_enc zero v h = absurd (omega arith)
point_enc (suc n) v h =
    let b = 48 + whole n v % 10 in
    let w = last_digits n v in
    let t = last_digits_lem (suc n) v in
    let x = head_enc digit digit b w (and_0 (in_c digit b) (all digit w) t) (and_1 (in_c digit b) (all digit w) t) in
    ((record { val = 46; is_in = tt }, x.0), λ k. ap (λ (l : List ℕ). 46 ∷ l) (x.1 k))

-- 0 and these digits behind it: the whole part is 0
zero_from : (b : ℕ) (w : List ℕ) → T (all digit (b ∷ w)) → ZeroPoint
zero_from b w t =
    let ds = b ∷ w in
    let e = whole_from 0 ds t in
    record {
      decimal = record { value = value_from 0 ds; places = length ds };
      begins = and_i (eqb (whole (length ds) (value_from 0 ds)) 0) (leb 1 (length ds)) (is_t (eq-eqb (whole (length ds) (value_from 0 ds)) 0 e)) (le→leb 1 (length ds) (omega arith));
    }

point_dec : (t : Tree point_re) → (z : ZeroPoint) × ((k : List ℕ) → text point_re t k ≡ point_text z.decimal.places z.decimal.value ++ k)
unfolding zero_from
point_dec (p, t) =
    let x = head_dec digit digit (λ b i. i) t in
    let ds = x.0 ∷ x.1 in
    let e : 46 ∷ ds ≡ point_text (length ds) (value_from 0 ds) = ap fraction (sym (last_from 0 ds x.2)) ∙ point_fraction (length ds) (value_from 0 ds) in
    (zero_from x.0 x.1 x.2, λ k. ap₂ ◌∷◌ (one_eq 46 p.val p.is_in) (x.4 k) ∙ ap (λ (l : List ℕ). l ++ k) e)

one_point : (x y : ZeroPoint) → point_text x.decimal.places x.decimal.value ≡ point_text y.decimal.places y.decimal.value → x ≡ y
one_point x y e =
    let n = x.decimal.places in
    let v = x.decimal.value in
    let m = y.decimal.places in
    let w = y.decimal.value in
    let l = fraction_one (last_digits n v) (last_digits m w) (point_fraction n v ∙ e ∙ sym (point_fraction m w)) in
    let places = sym (last_length n v) ∙ ap length l ∙ last_length m w in
    let value = sym (value_back n v) ∙ ap₂ value_from (whole_zero x ∙ sym (whole_zero y)) l ∙ value_back m w in
    zero_point_path x y (λ i. record { value = value i; places = places i })

pub means_point : Means ZeroPoint (λ z. point_text z.decimal.places z.decimal.value) point_re
means_point = means_one one_point (λ z. point_enc z.decimal.places z.decimal.value (places_some z)) point_dec
