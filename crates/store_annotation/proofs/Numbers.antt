-- Numbers and decimals within their limits are stored as they are spelled. Assumes nothing.
use Prim.Native.Nat.{ℕ, zero, suc, ◌+◌, ◌-◌, ◌^◌}
use mathlib.Core.Path.{◌≡◌, refl, ap, ◌∙◌}
use mathlib.Core.Bool.{Bool, true, false, cond, not}
use mathlib.Core.List.{[], ◌∷◌}
use native.Mathlib.Omega.{arith}
use borrow.Author.Tests.{ne_eqb}
use Rattle.std.specs.Prelude.{Option}
use Rattle.std.specs.Option.{is_some, unwrap_or}
use Rattle.lang.specs.Parts.{Opt, silent, written, opt_map}
use Rattle.lang.specs.Mark.{Kept, here, later}
use Rattle.rules.specs.Bytes.{bytes}
use Rattle.rules.specs.Numbers.{From, Number}
use Rattle.rules.specs.Decimals.{Decimal}
use Rattle.rules.specs.Confidences.{Confidence, meant_decimal}
use Rattle.rules.specs.Annotations.{Deviation, flag_text}
use Rattle.rules.specs.Preferred.{count_or1}
use Rattle.rules.specs.Limits.{max_position, max_charge, bare, opt_part, number_part, decimal_part, analyte_part, charge_part, deviation_part, confidence_part}
use Rattle.rules.specs.Stored.{little, flag, present, value_or0, number, deviation_kind, signed}
use Rattle.rules.proofs.Keeps.{kept_part, not_past}
use Rattle.faults.specs.declared.Refusal.{Refusal}
use Rattle.read_tail.specs.declared.DecimalPart.{DecimalPart}
use Rattle.read_tail.specs.Kinds.{part_number}
use Rattle.read_tail.proofs.SpelledTail.{charge_read, kind_read, size_read, deviation_read, confidence_read}
use Rattle.read_ion.proofs.OneIon.{label_read}
use Rattle.read_annotation.proofs.Prefixes.{analyte_number}
use Rattle.read_annotation.proofs.Ions.{told_within}
use Rattle.read_annotation.proofs.Rules.{fits_kept, confidence_fits_kept}
use Rattle.store_annotation.specs.Records.{signed_of}

-- ---- numbers

pub label_told : (n : Opt Number) (at : ℕ) → Kept ((opt_part (number_part max_position) n).marks at) → label_read n ≡ value_or0 number n
label_told silent at k = refl
label_told (written n) at k = told_within n at k

pub analyte_told : (n : Opt ℕ) (at : ℕ) → Kept ((opt_part analyte_part n).marks at) → unwrap_or (analyte_number n) 0 ≡ value_or0 (λ n. n) n
analyte_told silent at k = refl
analyte_told (written n) at k = omega (arith, not_past max_position n (λ b. k _ here b))

pub present_told : (n : Opt ℕ) → flag (is_some (analyte_number n)) ≡ present n
present_told silent = refl
present_told (written n) = refl

pub charge_told : (c : Opt (From 2)) (at : ℕ) → Kept ((opt_part charge_part c).marks at) → charge_read c ≡ count_or1 c
charge_told silent at k = refl
charge_told (written n) at k = omega (arith, not_past max_charge n.value (λ b. k _ here b))

-- ---- decimals

-- 0 with a minus is 2 ^ 64, whose eight low bytes are those of 0
signed_bytes : (minus : Bool) (v : ℕ) → little 8 (signed_of minus v) ≡ little 8 (signed minus v)
unfolding signed_of
signed_bytes false v = refl
signed_bytes true zero = refl
signed_bytes true (suc v) = ap (λ (t : Bool). little 8 (cond (not t) (2 ^ 64 - suc v) (suc v))) (ne_eqb (suc v) 0 (λ z. omega arith))

pub record DeviationTold (d : Opt Deviation) (p : DecimalPart) : Type 0 where
  pub kind : part_number p.kind ≡ deviation_kind d
  pub places : p.size.places ≡ value_or0 (λ d. d.size.places) d
  pub value : little 8 (signed_of p.minus p.size.value) ≡ little 8 (value_or0 (λ d. signed d.minus d.size.value) d)

kind_told : (p : Bool) → part_number (kind_read p) ≡ 1 + flag p
kind_told true = refl
kind_told false = refl

pub deviation_told : (d : Opt Deviation) (at : ℕ) (g : Option Refusal) → Kept ((opt_part deviation_part d).marks at) → DeviationTold d (deviation_read d g)
deviation_told silent at g k = record { kind = refl; places = refl; value = signed_bytes false 0 }
deviation_told (written d) at g k =
    let p = kept_part at (bare (bytes "/") ∷ bare (flag_text (bytes "-") d.minus) ∷ decimal_part d.size ∷ []) k (decimal_part d.size) (later (later here)) in
    let f = fits_kept d.size p.0 p.1 in
    record {
      kind = kind_told d.ppm;
      places = ap (λ (t : Bool). (size_read d.size t).places) f;
      value = ap (λ (t : Bool). little 8 (signed_of d.minus (size_read d.size t).value)) f ∙ signed_bytes d.minus d.size.value;
    }

pub record ConfidenceTold (c : Opt Decimal) (p : DecimalPart) : Type 0 where
  pub kind : part_number p.kind ≡ present c
  pub places : p.size.places ≡ value_or0 (λ d. d.places) c
  pub value : p.size.value ≡ value_or0 (λ d. d.value) c

pub confidence_told : (c : Opt Confidence) (at : ℕ) (g : Option Refusal) → Kept ((opt_part confidence_part c).marks at)
    → ConfidenceTold (opt_map meant_decimal c) (confidence_read c g)
confidence_told silent at g k = record { kind = refl; places = refl; value = refl }
confidence_told (written c) at g k =
    let d = meant_decimal c in
    let f = confidence_fits_kept c at k in
    record { kind = refl; places = ap (λ (t : Bool). (size_read d t).places) f; value = ap (λ (t : Bool). (size_read d t).value) f }
