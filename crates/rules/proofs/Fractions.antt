-- Laws of decimals: the digits after the point, the number without it, and that few digits make a small number. Assumes nothing.
use Prim.Native.Nat.{ℕ, zero, suc, ◌+◌, ◌-◌, ◌*◌, ◌/◌, ◌%◌, ◌^◌, ◌≤◌, ◌<◌}
use mathlib.Core.Path.{◌≡◌, refl, ap, ap₂, ◌∙◌, subst}
use mathlib.Core.List.{List, [], ◌∷◌, ◌++◌}
use native.Mathlib.Omega.{arith}
use lib.Dec.{T}
use lib.ListN.{length, length-append}
use Rattle.lang.specs.Re.{in_c}
use Rattle.lang.specs.Digits.{value_from}
use Rattle.lang.specs.Parts.{all}
use Rattle.lang.proofs.Deriv.{and_0, and_1, and_i}
use Rattle.lang.proofs.Lits.{in→, →in}
use Rattle.rules.specs.Bytes.{digit}
use Rattle.rules.specs.Numbers.{digits}
use Rattle.rules.specs.Decimals.{Decimal, whole, last_digits, digit_count}
use Rattle.rules.specs.Limits.{max_digits}
use Rattle.rules.proofs.Digits.{value_append, digits_value, digits_all, all_append}

-- a number and then digits, without those digits
pub whole_from : (w : ℕ) (ds : List ℕ) → T (all digit ds) → whole (length ds) (value_from w ds) ≡ w
unfolding whole value_from
whole_from w [] t = refl
whole_from w (b ∷ ds) t =
    let g = in→ 48 57 b (and_0 (in_c digit b) (all digit ds) t) in
    ap (λ (x : ℕ). x / 10) (whole_from (w * 10 + (b - 48)) ds (and_1 (in_c digit b) (all digit ds) t)) ∙ omega arith

-- and those digits alone
pub last_from : (w : ℕ) (ds : List ℕ) → T (all digit ds) → last_digits (length ds) (value_from w ds) ≡ ds
unfolding last_digits value_from
last_from w [] t = refl
last_from w (b ∷ ds) t =
    let g = in→ 48 57 b (and_0 (in_c digit b) (all digit ds) t) in
    let ts = and_1 (in_c digit b) (all digit ds) t in
    let e : 48 + (w * 10 + (b - 48)) % 10 ≡ b = omega arith in
    ap₂ ◌∷◌ (ap (λ (x : ℕ). 48 + x % 10) (whole_from (w * 10 + (b - 48)) ds ts) ∙ e) (last_from (w * 10 + (b - 48)) ds ts)

-- both together again
pub value_back : (n v : ℕ) → value_from (whole n v) (last_digits n v) ≡ v
unfolding whole last_digits value_from
value_back zero v = refl
value_back (suc n) v =
    let e : whole n v / 10 * 10 + (48 + whole n v % 10 - 48) ≡ whole n v = omega arith in
    ap (λ (x : ℕ). value_from x (last_digits n v)) e ∙ value_back n v

pub last_length : (n v : ℕ) → length (last_digits n v) ≡ n
unfolding last_digits
last_length zero v = refl
last_length (suc n) v = ap suc (last_length n v)

pub last_digits_lem : (n v : ℕ) → T (all digit (last_digits n v))
unfolding last_digits
last_digits_lem zero v = tt
last_digits_lem (suc n) v =
    and_i (in_c digit (48 + whole n v % 10)) (all digit (last_digits n v)) (→in 48 57 (48 + whole n v % 10) (omega arith) (omega arith)) (last_digits_lem n v)

-- ---- few digits

-- a number with k zeros behind it
abbrev zeros : ℕ → ℕ → ℕ
zeros zero b = b
zeros (suc k) b = zeros k (b * 10)

value_below : (k a b : ℕ) (w : List ℕ) → T (all digit w) → length w ≤ k → a < b → value_from a w < zeros k b
unfolding value_from
value_below zero a b [] t n h = h
value_below zero a b (c ∷ w) t n h = absurd (omega arith)
value_below (suc k) a b [] t n h = value_below k a (b * 10) [] t (omega arith) (omega arith)
value_below (suc k) a b (c ∷ w) t n h =
    let g = in→ 48 57 c (and_0 (in_c digit c) (all digit w) t) in
    value_below k (a * 10 + (c - 48)) (b * 10) w (and_1 (in_c digit c) (all digit w) t) (omega arith) (omega arith)

-- all digits of a decimal
abbrev digits_of : Decimal → List ℕ
digits_of d = digits (whole d.places d.value) ++ last_digits d.places d.value

digits_of_length : (d : Decimal) → length (digits_of d) ≡ digit_count d
digits_of_length d =
    omega (arith, length-append (digits (whole d.places d.value)) (last_digits d.places d.value), last_length d.places d.value)

digits_of_value : (d : Decimal) → value_from 0 (digits_of d) ≡ d.value
digits_of_value d =
    let w = whole d.places d.value in
    let l = last_digits d.places d.value in
    value_append 0 (digits w) l ∙ ap (λ (x : ℕ). value_from x l) (digits_value w) ∙ value_back d.places d.value

-- a decimal within its bound of digits
pub decimal_below : (d : Decimal) → digit_count d ≤ max_digits → d.value < 10 ^ max_digits
decimal_below d h =
    let w = whole d.places d.value in
    let t = all_append (digits w) (last_digits d.places d.value) (digits_all w) (last_digits_lem d.places d.value) in
    let b = value_below max_digits 0 1 (digits_of d) t (omega (arith, digits_of_length d)) (omega arith) in
    subst (λ (v : ℕ). v < 10 ^ max_digits) (digits_of_value d) b
