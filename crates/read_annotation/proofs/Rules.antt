-- The rules for one annotation, of what is read of spelled parts within their limits. Assumes nothing.
use Prim.Native.Nat.{ℕ, ◌-◌, ◌^◌, min}
use mathlib.Core.Path.{◌≡◌, refl, ap}
use mathlib.Core.Bool.{Bool, true, false, not, ◌||◌}
use mathlib.Core.List.{[], ◌∷◌}
use native.Mathlib.Nat.{zero-mul}
use native.Mathlib.Omega.{arith}
use lib.Dec.{T, leb}
use borrow.Author.Tests.{leb-true, leb-false, le-leb, lt-leb}
use Rattle.std.specs.Prelude.{Option}
use Rattle.lang.specs.Parts.{Opt, silent, written, opt_map}
use Rattle.lang.specs.Mark.{Kept, here, later}
use Rattle.rules.specs.Bytes.{bytes}
use Rattle.rules.specs.Decimals.{Decimal}
use Rattle.rules.specs.Confidences.{Confidence, in_full, from_point_lem, meant_decimal}
use Rattle.rules.specs.Annotations.{Deviation, flag_text}
use Rattle.rules.specs.House.{deviation_rule, confidence_of, one}
use Rattle.rules.specs.Limits.{max_places, fits, bare, decimal_mark, decimal_part, opt_part, deviation_part, confidence_part}
use Rattle.rules.proofs.Keeps.{kept_part}
use Rattle.numbers.specs.Shares.{largest, billionths_of}
use Rattle.faults.specs.declared.Refusal.{Refusal}
use Rattle.read_tail.specs.declared.DecimalPart.{DecimalPart}
use Rattle.read_tail.proofs.SpelledTail.{size_read, deviation_read, confidence_read}
use Rattle.read_annotation.specs.House.{deviation_rule_of, share_of}

pub fits_kept : (d : Decimal) (at : ℕ) → Kept (decimal_mark d at) → fits d ≡ true
fits_kept d at k = by (fits d) (λ t. k _ here t)
  where
    by : (b : Bool) → (T (not b) → ⊥) → b ≡ true
    by true h = refl
    by false h = absurd (h tt)

pub confidence_fits_kept : (c : Confidence) (at : ℕ) → Kept ((confidence_part c).marks at) → fits (meant_decimal c) ≡ true
confidence_fits_kept (in_full d) at k = fits_kept d _ k
confidence_fits_kept (from_point_lem z) at k = fits_kept z.decimal _ k

pub deviation_rule_lem : (d : Opt Deviation) (at : ℕ) (g : Option Refusal) → Kept ((opt_part deviation_part d).marks at) → deviation_rule_of (deviation_read d g) ≡ deviation_rule d
unfolding deviation_rule_of
deviation_rule_lem silent at g k = refl
deviation_rule_lem (written d) at g k =
    let p = kept_part at (bare (bytes "/") ∷ bare (flag_text (bytes "-") d.minus) ∷ decimal_part d.size ∷ []) k (decimal_part d.size) (later (later here)) in
    ap (λ (t : Bool). not d.minus || leb 1 (size_read d.size t).value) (fits_kept d.size p.0 p.1)

-- nothing is no billionths, whatever its places
pub share_zero : (c : DecimalPart) → c.size.value ≡ 0 → 0 ≡ share_of c
unfolding share_of billionths_of
share_zero c e = rw (e, zero-mul (10 ^ (max_places - c.size.places)))

pub share_told : (c : Opt Confidence) (at : ℕ) (g : Option Refusal) → Kept ((opt_part confidence_part c).marks at)
    → share_of (confidence_read c g) ≡ min (confidence_of (opt_map meant_decimal c)) largest
unfolding share_of billionths_of
share_told silent at g k = omega arith
share_told (written c) at g k = ap (λ (t : Bool). billionths_of (size_read (meant_decimal c) t)) (confidence_fits_kept c at k)

-- as much as a u64 holds is past 1 where the confidence is
pub share_test : (n : ℕ) → leb (min n largest) one ≡ leb n one
share_test n = by (leb n one) refl
  where
    by : (t : Bool) → leb n one ≡ t → leb (min n largest) one ≡ t
    by true e = let l = leb-true n one e in le-leb (min n largest) one (omega arith)
    by false e = let l = leb-false n one e in lt-leb (min n largest) one (omega arith)
