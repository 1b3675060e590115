-- The broken limits of an annotation, and of a line, come in the order of their places. Assumes nothing.
use Prim.Native.Nat.{ℕ, ◌+◌, ◌<◌, ◌≤◌}
use mathlib.Core.List.{[], ◌∷◌}
use native.Mathlib.Omega.{arith}
use native.Mathlib.Nat.{le_refl}
use lib.ListN.{length, length-append}
use Rattle.lang.specs.Parts.{flat}
use Rattle.lang.proofs.Rising.{room, none, also, rise_none, rise_wide, rise_append}
use Rattle.rules.specs.Bytes.{bytes}
use Rattle.rules.specs.Numbers.{digits, From}
use Rattle.rules.specs.Losses.{loss_text}
use Rattle.rules.specs.Confidences.{Confidence, in_full, from_point_lem, confidence_text}
use Rattle.rules.specs.Annotations.{SpelledAnnotation, Deviation, flag_text, charge_text, deviation_text, annotation_text}
use Rattle.rules.specs.Lines.{Spelling, next_text, line_text}
use Rattle.rules.specs.Limits.{max_position, max_charge, loss_marks, analyte_part, charge_part, deviation_part, confidence_part}
use Rattle.rules.specs.Limits.{annotation_parts, annotation_marks, next_marks, line_marks}
use Rattle.rules.proofs.Digits.{digits_some}
use Rattle.rules.proofs.Confidences.{places_some, point_length}
use Rattle.rules.proofs.Rising.{Rises, Fits, AllFit, bare_fits, number_rises, decimal_rises, decimal_some, decimal_fits}
use Rattle.rules.proofs.Rising.{opt_fits, opt_length, parts_within, many_first, row_rises, row_fits}
use Rattle.rules.proofs.RisesParts.{ion_rises, ion_some, loss_rises, isotopes_rise, adduct_rises}

-- ---- an annotation: its analyte's number may begin where it does, and comes after its limit on how many there are

analyte_fits : (n : ℕ) → Fits (analyte_part n)
analyte_fits n = record { rises = λ at. number_rises max_position n at _ (omega (arith, length-append (digits n) (bytes "@"))) }

charge_fits : (n : From 2) → Fits (charge_part n)
charge_fits n =
    let d = digits_some n.value in
    record { rises = λ at. rise_wide (omega arith) (le_refl _) (number_rises max_charge n.value (at + 1) (at + length (charge_text n)) (omega arith)) }

deviation_fits : (d : Deviation) → Fits (deviation_part d)
deviation_fits d =
    let ps = also (bare_fits (bytes "/")) (also (bare_fits (flag_text (bytes "-") d.minus)) (also (decimal_fits d.size) none)) in
    record { rises = λ at. parts_within ps at (length (deviation_text d)) (simp length-append (omega arith)) }

confidence_fits : (c : Confidence) → Fits (confidence_part c)
confidence_fits (in_full d) =
    let s = decimal_some d in
    record { rises = λ at. rise_wide (omega arith) (le_refl _) (decimal_rises d (at + 1) (at + length (confidence_text (in_full d))) (omega arith)) }
confidence_fits (from_point_lem z) =
    let d = z.decimal in
    let h = places_some z in
    let s = point_length d.places d.value h in
    record { rises = λ at. rise_wide (omega arith) (le_refl _) (decimal_rises d (at + 2) (at + length (confidence_text (from_point_lem z))) (omega arith)) }

annotation_parts_lem : (a : SpelledAnnotation) → AllFit (annotation_parts a)
annotation_parts_lem a =
    also (bare_fits (flag_text (bytes "&") a.marked)) (also (opt_fits analyte_part analyte_fits a.analyte)
    (also (record { rises = ion_rises a.ion }) (also (row_fits loss_text loss_marks loss_rises a.losses)
    (also (record { rises = isotopes_rise a.isotopes }) (also (record { rises = adduct_rises a.adduct })
    (also (opt_fits charge_part charge_fits a.charge) (also (opt_fits deviation_part deviation_fits a.deviation)
    (also (opt_fits confidence_part confidence_fits a.confidence) none))))))))

annotation_room : (a : SpelledAnnotation) → room (annotation_parts a) ≤ length (annotation_text a)
annotation_room a =
    simp length-append (omega (
      arith,
      opt_length analyte_part a.analyte,
      opt_length charge_part a.charge,
      opt_length deviation_part a.deviation,
      opt_length confidence_part a.confidence,
    ))

annotation_some : (a : SpelledAnnotation) → 0 < length (annotation_text a)
annotation_some a = simp length-append (omega (arith, ion_some a.ion))

annotation_rises : (i : ℕ) (a : SpelledAnnotation) (at : ℕ) → Rises at (at + length (annotation_text a)) (annotation_marks i a at)
annotation_rises i a at =
    let n = length (annotation_text a) in
    many_first _ i at n (annotation_some a) (parts_within (annotation_parts_lem a) at n (annotation_room a))

-- ---- a line

next_rises : (i : ℕ) (a : SpelledAnnotation) (at : ℕ) → Rises at (at + length (next_text a)) (next_marks i a at)
next_rises i a at = rise_wide (omega arith) (omega arith) (annotation_rises i a (at + 1))

pub line_rises : (s : Spelling) → Rises 0 (length (line_text s)) (line_marks s)
line_rises [] = rise_none
line_rises (a ∷ more) =
    let mid = length (annotation_text a) in
    let e = length-append (annotation_text a) (flat next_text more) in
    let b : mid ≤ length (line_text (a ∷ more)) = omega arith in
    let c : mid + length (flat next_text more) ≤ length (line_text (a ∷ more)) = omega arith in
    rise_append (omega arith) b (rise_wide (omega arith) (omega arith) (annotation_rises 0 a 0))
    (rise_wide (le_refl mid) c (row_rises next_text next_marks next_rises 1 more mid))
