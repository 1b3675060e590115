-- The table of a line within its bound has at most 21,372 bytes: an annotation has so many besides its texts, and the texts of all have
-- no more bytes than the line. Assumes nothing.
use Prim.Native.Nat.{ℕ, ◌+◌, ◌*◌, ◌≤◌}
use mathlib.Core.Path.{ap}
use mathlib.Core.List.{List, [], ◌∷◌, ◌++◌}
use native.Mathlib.Omega.{arith}
use native.Mathlib.Nat.{mul-suc}
use lib.ListN.{length, length-append}
use Rattle.lang.specs.Parts.{opt_text, flat}
use Rattle.lang.specs.Mark.{In, here, later}
use Rattle.lang.specs.Order.{Each, none, next}
use Rattle.rules.specs.Bytes.{bytes}
use Rattle.rules.specs.Numbers.{Number}
use Rattle.rules.specs.Ions.{ion_text, TableIon}
use Rattle.rules.specs.Losses.{Loss, loss_text}
use Rattle.rules.specs.Isotopes.{isotopes_text}
use Rattle.rules.specs.Adducts.{adduct_text}
use Rattle.rules.specs.Confidences.{confidence_text}
use Rattle.rules.specs.Annotations.{TableAnnotation, SpelledAnnotation, flag_text, analyte_text, charge_text, deviation_text, annotation_text}
use Rattle.rules.specs.Lines.{Spelling, line_text, next_text}
use Rattle.rules.specs.Fields.{Table, Says}
use Rattle.rules.specs.Limits.{max_line, max_units}
use Rattle.rules.specs.Stored.{ion_fields, lost_units, lost_name, added_units, annotation_texts, stored}
use Rattle.rules.specs.Answers.{Sound}
use Rattle.rules.specs.Largest.{max_plain_bytes, max_table}
use Rattle.rules.specs.Editions.{Edition, current}
use Rattle.rules.proofs.Totals.{total, length_flat, total_le, perm_flat}
use Rattle.rules.proofs.Bounds.{Bounded, table_few, table_bounded}
use Rattle.rules.proofs.Lengths.{weight, stored_weight}
use Rattle.read_annotation.proofs.Sizes.{ion_long, losses_long}

-- ---- an annotation, besides its texts

pub weight_plain : (a : TableAnnotation) → Bounded a → weight current a ≤ max_plain_bytes + length (annotation_texts a)
weight_plain a h =
    let u = (ion_fields a.ion).units in
    let lu = flat (λ l. lost_units l.what) a.losses in
    let iu = flat (λ x. added_units x.what) a.adduct in
    omega (
      arith,
      h.losses,
      h.isotopes,
      h.adduct,
      h.ion.few,
      total_le (λ l. length (lost_units l.what)) max_units a.losses (λ l i. (h.loss l i).few),
      total_le (λ x. length (added_units x.what)) max_units a.adduct h.item,
      length-append u (lu ++ iu),
      length-append lu iu,
      length_flat (λ l. lost_units l.what) a.losses,
      length_flat (λ x. added_units x.what) a.adduct,
    )

-- ---- texts: each byte is one of the line

text_long : {a : SpelledAnnotation} {b : TableAnnotation} → Says a b → length (annotation_texts b) ≤ length (annotation_text a)
text_long {a} {b} s =
    let e = s.fields in
    let behind =
    isotopes_text a.isotopes ++ (adduct_text a.adduct ++ (opt_text charge_text a.charge
    ++ (opt_text deviation_text a.deviation ++ opt_text confidence_text a.confidence))) in
    let losses = flat loss_text a.losses ++ behind in
    let ion = ion_text a.ion ++ losses in
    let analyte = opt_text analyte_text a.analyte ++ ion in
    omega (
      arith,
      length-append (ion_fields b.ion).text (flat (λ l. lost_name l.what) b.losses),
      ap (λ (x : TableIon). length (ion_fields x).text) e.ion,
      (ion_long a.ion).text,
      perm_flat (λ (l : Loss Number). lost_name l.what) e.losses,
      losses_long a.losses,
      length-append (flag_text (bytes "&") a.marked) analyte,
      length-append (opt_text analyte_text a.analyte) ion,
      length-append (ion_text a.ion) losses,
      length-append (flat loss_text a.losses) behind,
    )

-- each after its comma
more_long : {s : Spelling} {t : Table} → Each Says s t → total (λ a. length (annotation_texts a)) t ≤ length (flat next_text s)
more_long none = omega arith
more_long (next {a = a} {l = l} x e) = omega (arith, text_long x, more_long e, length-append (annotation_text a) (flat next_text l))

pub texts_long : {s : Spelling} {t : Table} → Each Says s t → total (λ a. length (annotation_texts a)) t ≤ length (line_text s)
texts_long none = omega arith
texts_long (next {a = a} {l = l} x e) = omega (arith, text_long x, more_long e, length-append (annotation_text a) (flat next_text l))

-- ---- the whole

-- bounds that are the same but for a part of each
total_over : {A : Type 0} (v w : A → ℕ) (n : ℕ) (xs : List A) → ((x : A) → In x xs → v x ≤ n + w x) → total v xs ≤ n * length xs + total w xs
total_over v w n [] h = omega arith
total_over v w n (x ∷ xs) h = omega (arith, h x here, total_over v w n xs (λ y i. h y (later i)), mul-suc n (length xs))

pub table_small : {s : Spelling} {t : Table} → Each Says s t → {e : Edition} → Sound e t → length (line_text s) ≤ max_line → length (stored current t) ≤ max_table
table_small {t = t} e h short =
    omega (
      arith,
      stored_weight current t,
      total_over (weight current) (λ a. length (annotation_texts a)) max_plain_bytes t (λ a i. weight_plain a (table_bounded t h a i)),
      table_few t h,
      texts_long e,
    )
