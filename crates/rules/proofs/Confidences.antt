-- Laws of a confidence that begins with the point (document 02, M-102): what its decimal is, and how long its text is. Assumes nothing.
use Prim.Native.Nat.{ℕ, zero, suc, ◌+◌, ◌≤◌}
use mathlib.Core.Path.{◌≡◌, refl, ap, ◌∙◌}
use mathlib.Core.Bool.{Bool, true, false}
use mathlib.Core.List.{List, ◌++◌}
use mathlib.Core.HLevel.{is_prop→PathP}
use native.Mathlib.Omega.{arith}
use lib.Dec.{T, T_prop, eqb, leb, leb→le}
use lib.ListN.{length, length-append}
use borrow.Author.Tests.{eqb-true}
use Rattle.lang.specs.Parts.{Opt, silent, written, opt_map}
use Rattle.lang.proofs.Deriv.{and_0, and_1}
use Rattle.lang.proofs.Tests.{t_is, not_t}
use Rattle.rules.specs.Bytes.{bytes}
use Rattle.rules.specs.Numbers.{digits}
use Rattle.rules.specs.Decimals.{Decimal, whole, point_text, decimal_text}
use Rattle.rules.specs.Confidences.{begins_zero_point, ZeroPoint, Confidence, in_full, from_point_lem, confidence_text, meant_decimal}
use Rattle.rules.proofs.Digits.{digits_small}
use Rattle.rules.proofs.Fractions.{last_length}

-- ---- what is left out

abbrev pub leaves_zero : Confidence → Bool
leaves_zero (in_full d) = false
leaves_zero (from_point_lem z) = true

abbrev pub zero_left_out : Opt Confidence → Bool
zero_left_out silent = false
zero_left_out (written c) = leaves_zero c

-- one that leaves out nothing is the decimal that it means, in full
pub in_full_kept : (x : Opt Confidence) → zero_left_out x ≡ false → x ≡ opt_map in_full (opt_map meant_decimal x)
in_full_kept silent e = refl
in_full_kept (written (in_full d)) e = refl
in_full_kept (written (from_point_lem z)) e = absurd (not_t {x = true} e tt)

-- ---- the decimal

-- decimals whose 0 may be left out are equal where the decimals are
pub zero_point_path : (x y : ZeroPoint) → x.decimal ≡ y.decimal → x ≡ y
zero_point_path x y p =
    λ i. record { decimal = p i; begins = is_prop→PathP (λ j. T (begins_zero_point (p j))) (λ j. T_prop (begins_zero_point (p j))) x.begins y.begins i }

module _ (z : ZeroPoint) where
  abbrev d : Decimal
  d = z.decimal

  pub whole_zero : whole d.places d.value ≡ 0
  whole_zero =
      let w = eqb (whole d.places d.value) 0 in
      eqb-true (whole d.places d.value) 0 (t_is w (and_0 w (leb 1 d.places) z.begins))

  pub places_some : 1 ≤ d.places
  places_some = leb→le 1 d.places (and_1 (eqb (whole d.places d.value) 0) (leb 1 d.places) z.begins)

  -- in full it has a 0 before the point
  pub zero_before : decimal_text d ≡ bytes "0" ++ point_text d.places d.value
  zero_before = ap (λ (l : List ℕ). l ++ point_text d.places d.value) (ap digits whole_zero ∙ digits_small 0 (omega arith))

-- ---- lengths

-- the point, and its digits
pub point_length : (n v : ℕ) → 1 ≤ n → length (point_text n v) ≡ 1 + n
unfolding point_text
point_length zero v h = absurd (omega arith)
point_length (suc n) v h = omega (arith, last_length (suc n) v)

-- in full it is at most one byte longer
pub full_longer : (c : Confidence) → length (confidence_text (in_full (meant_decimal c))) ≤ length (confidence_text c) + 1
full_longer (in_full d) = omega arith
full_longer (from_point_lem z) =
    let w = point_text z.decimal.places z.decimal.value in
    omega (arith, ap length (zero_before z), length-append (bytes "0") w)
