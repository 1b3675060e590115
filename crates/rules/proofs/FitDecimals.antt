-- The limits and house rules keep the numbers of a deviation and of a confidence within their fields of the stored table. Assumes nothing.
use Prim.Native.Nat.{ℕ, ◌-◌, ◌^◌, ◌≤◌, ◌<◌}
use mathlib.Core.Bool.{Bool, true, false, not, ◌||◌}
use mathlib.Core.List.{[], ◌∷◌}
use native.Mathlib.Omega.{arith}
use native.Mathlib.Nat.{one-le-pow, le-mul_of_pos_right}
use lib.Dec.{T, leb, leb→le}
use Rattle.lang.specs.Parts.{Opt, silent, written, opt_map}
use Rattle.lang.specs.Mark.{here, later, Kept}
use Rattle.lang.proofs.Deriv.{and_0, and_1}
use Rattle.rules.specs.Bytes.{bytes}
use Rattle.rules.specs.Decimals.{Decimal, digit_count}
use Rattle.rules.specs.Confidences.{Confidence, in_full, from_point_lem, meant_decimal}
use Rattle.rules.specs.Annotations.{Deviation, flag_text}
use Rattle.rules.specs.Limits.{max_places, max_digits, fits, bare, opt_part, decimal_part}
use Rattle.rules.specs.Limits.{deviation_part, confidence_part}
use Rattle.rules.specs.House.{deviation_rule, billionths, confidence_of, one}
use Rattle.rules.specs.Stored.{flag, value_or0, deviation_kind, signed}
use Rattle.rules.proofs.Fractions.{decimal_below}
use Rattle.rules.proofs.Keeps.{kept_part}

-- ---- decimals

pub kept_true : (b : Bool) → (T (not b) → ⊥) → T b
kept_true true h = tt
kept_true false h = h tt

decimal_places : (d : Decimal) → T (fits d) → d.places ≤ max_places
decimal_places d t = leb→le d.places max_places (and_0 (leb d.places max_places) (leb (digit_count d) max_digits) t)

decimal_size : (d : Decimal) → T (fits d) → d.value < 10 ^ max_digits
decimal_size d t = decimal_below d (leb→le (digit_count d) max_digits (and_1 (leb d.places max_places) (leb (digit_count d) max_digits) t))

-- ---- deviations

-- the number of a deviation, 0 without
abbrev pub size_of : Opt Deviation → ℕ
size_of x = value_or0 (λ d. d.size.value) x

pub record DeviationFits (x : Opt Deviation) : Type 0 where
  pub kind : deviation_kind x ≤ 2
  pub places : value_or0 (λ d. d.size.places) x ≤ max_places
  pub size : size_of x < 10 ^ max_digits
  pub value : value_or0 (λ d. signed d.minus d.size.value) x < 2 ^ 64

pub flag_small : (b : Bool) → flag b ≤ 1
flag_small true = omega arith
flag_small false = omega arith

-- no `-` before 0
signed_fits : (m : Bool) (n : ℕ) → n < 10 ^ max_digits → T (not m || leb 1 n) → signed m n < 2 ^ 64
signed_fits true n h t = let g = leb→le 1 n t in omega arith
signed_fits false n h t = omega arith

pub deviation_fits : (x : Opt Deviation) (at : ℕ) → Kept ((opt_part deviation_part x).marks at) → T (deviation_rule x) → DeviationFits x
deviation_fits silent at k t = omega arith
deviation_fits (written d) at k t =
    let p = kept_part at (bare (bytes "/") ∷ bare (flag_text (bytes "-") d.minus) ∷ decimal_part d.size ∷ []) k (decimal_part d.size) (later (later here)) in
    let f = kept_true (fits d.size) (λ b. p.1 _ here b) in
    let size = decimal_size d.size f in
    record { kind = omega (arith, flag_small d.ppm); places = decimal_places d.size f; size = size; value = signed_fits d.minus d.size.value size t }

-- ---- confidences

pub record ConfidenceFits (x : Opt Decimal) : Type 0 where
  pub places : value_or0 (λ d. d.places) x ≤ max_places
  pub value : value_or0 (λ d. d.value) x ≤ 10 ^ max_places

-- at most 1, and so at most a billion of its last places
within_one : (d : Decimal) → T (fits d) → T (leb (billionths d) one) → ConfidenceFits (written d)
within_one d f t =
    let g = le-mul_of_pos_right d.value (one-le-pow (max_places - d.places) 10 (omega arith)) in
    record { places = decimal_places d f; value = omega (arith, leb→le (billionths d) one t) }

-- the limit of a confidence is that of the decimal which it means
pub confidence_kept : (c : Confidence) (at : ℕ) → Kept ((confidence_part c).marks at) → T (fits (meant_decimal c))
confidence_kept (in_full d) at k = kept_true (fits d) (λ b. k _ here b)
confidence_kept (from_point_lem z) at k = kept_true (fits z.decimal) (λ b. k _ here b)

pub confidence_fits : (x : Opt Confidence) (at : ℕ) → Kept ((opt_part confidence_part x).marks at) → T (leb (confidence_of (opt_map meant_decimal x)) one)
    → ConfidenceFits (opt_map meant_decimal x)
confidence_fits silent at k t = omega arith
confidence_fits (written c) at k t = within_one (meant_decimal c) (confidence_kept c at k) t
