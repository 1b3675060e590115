-- What is spelled anew of each part of an annotation that is spelled, and what is left behind it. Assumes nothing.
use Prim.Native.Nat.{ℕ, ◌+◌, ◌-◌}
use mathlib.Core.Path.{◌≡◌, refl, sym, ap, ap₂, ◌∙◌}
use mathlib.Core.List.{List, ◌++◌, map, append_assoc}
use native.Mathlib.Omega.{arith}
use lib.ListN.{length, take, drop, length-append}
use lib.Seq.{take-append_seam, drop-append_seam}
use Rattle.std.specs.Prelude.{Option}
use Rattle.lang.specs.Parts.{Opt, silent, written, opt_text, opt_map, flat}
use Rattle.lang.specs.Mark.{Kept, here, later, marks_of}
use Rattle.lang.specs.Walk.{Walked, walked}
use Rattle.rules.specs.Bytes.{bytes}
use Rattle.rules.specs.Ions.{ion_text, ion_map}
use Rattle.rules.specs.Losses.{loss_text, loss_map}
use Rattle.rules.specs.Isotopes.{isotopes_text, isotopes_map}
use Rattle.rules.specs.Adducts.{adduct_text}
use Rattle.rules.specs.Decimals.{point_text}
use Rattle.rules.specs.Confidences.{Confidence, in_full, from_point_lem, confidence_text, meant_decimal}
use Rattle.rules.specs.Annotations.{SpelledAnnotation, flag_text, analyte_text, charge_text, deviation_text}
use Rattle.rules.specs.Fields.{filled, filled_cut}
use Rattle.rules.specs.Preferred.{shortened, loss_le, shortened_cut}
use Rattle.rules.specs.Limits.{part, row_part, ion_parts, loss_marks, isotopes_marks, adduct_marks, annotation_parts, annotation_marks}
use Rattle.rules.proofs.Confidences.{zero_before}
use Rattle.rules.proofs.Keeps.{kept_tail, kept_part}
use Rattle.faults.specs.declared.Refusal.{Refusal}
use Rattle.read_ion.proofs.SpelledIon.{ion_read}
use Rattle.read_tail.proofs.SpelledTail.{confidence_read}
use Rattle.read_isotopes.specs.Spelled.{spelled_isotopes}
use Rattle.read_isotopes.proofs.Stores.{kept_told}
use Rattle.read_isotopes.proofs.Respelled.{isotopes_spelled}
use Rattle.sort_changes.specs.Events.{behind_changes}
use Rattle.sort_changes.proofs.Respelled.{SpelledRow, losses_spelled}
use Rattle.sort_changes.proofs.Fits.{losses_fit}
use Rattle.read_annotation.specs.declared.Parts.{Parts}
use Rattle.read_annotation.proofs.Chains.{drop_is, drop_three}
use Rattle.read_annotation.proofs.SpelledAnnotation.{EndsAnnotation, prefix_length, first, second, third, isotopes_on, adduct_on, ends_middle, losses_ends, adduct_ends, behind_prefix, fault0, fault1, parts_read}
use Rattle.respell_annotation.specs.Annotations.{ion_spelled, tail_spelled, behind_spelled_isotopes}
use Rattle.respell_annotation.proofs.Ions.{ion_spelled_lem}
use Rattle.respell_annotation.proofs.Adducts.{AdductSpelled, adduct_spelled_lem}

-- ---- the first of what stands there

-- a text, told by its length
pub take_is : (w k : List ℕ) {n : ℕ} → n ≡ length w → take n (w ++ k) ≡ w
take_is w k e = ap (λ (m : ℕ). take m (w ++ k)) e ∙ take-append_seam w k

take_two : (u v k : List ℕ) → take (length u + length v) (u ++ (v ++ k)) ≡ u ++ v
take_two u v k = ap (take (length u + length v)) (sym (append_assoc u v k)) ∙ take_is (u ++ v) k (sym (length-append u v))

pub take_three : (u v w k : List ℕ) → take (length u + length v + length w) (u ++ (v ++ (w ++ k))) ≡ u ++ (v ++ w)
take_three u v w k =
    let n : length u + length v + length w ≡ length (u ++ (v ++ w)) = omega (arith, length-append u (v ++ w), length-append v w) in
    ap (take (length u + length v + length w)) (sym (append_assoc u (v ++ w) k ∙ ap (λ (l : List ℕ). u ++ l) (append_assoc v w k)))
    ∙ take_is (u ++ (v ++ w)) k n

-- ---- charge, deviation, confidence

-- two texts, `*`, a point and its digits: the 0 stands behind `*`
zero_put : (u v w : List ℕ) (n : ℕ) → n ≡ length w
    → let s = u ++ (v ++ (bytes "*" ++ w)) in take (length s - n) s ++ (bytes "0" ++ drop (length s - n) s) ≡ u ++ (v ++ (bytes "*" ++ (bytes "0" ++ w)))
zero_put u v w n e =
    let front = u ++ (v ++ bytes "*") in
    let s = u ++ (v ++ (bytes "*" ++ w)) in
    let t : s ≡ front ++ w = sym (append_assoc u (v ++ bytes "*") w ∙ ap (λ (l : List ℕ). u ++ l) (append_assoc v (bytes "*") w)) in
    let at : length s - n ≡ length front = omega (arith, ap length t, length-append front w) in
    ap₂ (λ (i : ℕ) (l : List ℕ). take i l ++ (bytes "0" ++ drop i l)) at t
    ∙ ap₂ (λ (x y : List ℕ). x ++ (bytes "0" ++ y)) (take-append_seam front w) (drop-append_seam front w)
    ∙ append_assoc u (v ++ bytes "*") (bytes "0" ++ w) ∙ ap (λ (l : List ℕ). u ++ l) (append_assoc v (bytes "*") (bytes "0" ++ w))

tail_spelled_lem : (u v : List ℕ) (c : Opt Confidence) (g : Option Refusal)
    → tail_spelled (u ++ (v ++ opt_text confidence_text c)) (confidence_read c g) ≡ u ++ (v ++ opt_text confidence_text (opt_map in_full (opt_map meant_decimal c)))
unfolding tail_spelled
tail_spelled_lem u v silent g = refl
tail_spelled_lem u v (written (in_full d)) g = refl
tail_spelled_lem u v (written (from_point_lem z)) g =
    let w = point_text z.decimal.places z.decimal.value in
    zero_put u v w (length (confidence_text (from_point_lem z)) - 1) (omega arith) ∙ ap (λ (l : List ℕ). u ++ (v ++ (bytes "*" ++ l))) (sym (zero_before z))

-- ---- part by part

module _ (a : SpelledAnnotation) (k : List ℕ) where
  pub prefix_is : take (prefix_length a.marked a.analyte) (first a k) ≡ flag_text (bytes "&") a.marked ++ opt_text analyte_text a.analyte
  prefix_is = take_two (flag_text (bytes "&") a.marked) (opt_text analyte_text a.analyte) (ion_text a.ion ++ second a k)

  module _ (nth end : ℕ) (f : Option Refusal) where
    abbrev read : Parts
    read = parts_read a k nth end f

    pub middle_is : take read.middle.len (second a k) ≡ flat loss_text a.losses ++ (isotopes_text a.isotopes ++ adduct_text a.adduct)
    middle_is = take_three (flat loss_text a.losses) (isotopes_text a.isotopes) (adduct_text a.adduct) (third a k)

    pub tail_is : tail_spelled (take read.tail.len (drop read.middle.len (second a k))) read.tail.confidence
        ≡ opt_text charge_text a.charge ++ (opt_text deviation_text a.deviation ++ opt_text confidence_text (opt_map in_full (opt_map meant_decimal a.confidence)))
    tail_is =
        ap (λ (s : List ℕ). tail_spelled s read.tail.confidence)
        (ap (take read.tail.len) (drop_three (flat loss_text a.losses) (isotopes_text a.isotopes) (adduct_text a.adduct) (third a k))
        ∙ take_three (opt_text charge_text a.charge) (opt_text deviation_text a.deviation) (opt_text confidence_text a.confidence) k)
        ∙ tail_spelled_lem (opt_text charge_text a.charge) (opt_text deviation_text a.deviation) a.confidence _

    pub ion_is : (i at : ℕ) → Kept (annotation_marks i a at)
        → ion_spelled (drop read.front.at (first a k)) read.front.ion ≡ ion_text (ion_map shortened shortened_cut (ion_map filled filled_cut a.ion))
    ion_is i at kept =
        let p = kept_part at (annotation_parts a) (kept_tail kept) (part (ion_text a.ion) (λ at. marks_of at (ion_parts a.ion))) (later (later here)) in
        let g = fault1 a k end (fault0 a k nth end f) in
        ap (λ (s : List ℕ). ion_spelled s (ion_read a.ion g)) (behind_prefix a.marked a.analyte a.ion (second a k))
        ∙ ion_spelled_lem a.ion (second a k) p.0 g p.1

  module _ (e : EndsAnnotation k) (i at : ℕ) (kept : Kept (annotation_marks i a at)) where
    pub losses_are : SpelledRow loss_le (λ l. loss_text (loss_map shortened l)) (map (loss_map filled) a.losses) (second a k)
        (length (flat loss_text a.losses))
    losses_are =
        let p = kept_part at (annotation_parts a) (kept_tail kept) (row_part loss_text loss_marks a.losses) (later (later (later here))) in
        let m = ends_middle a.charge a.deviation a.confidence e in
        losses_spelled a.losses (isotopes_on a k) (losses_ends a.losses a.isotopes a.adduct (third a k) m) (losses_fit a.losses p.0 p.1)

    pub behind_losses_lem : behind_changes (second a k) ≡ isotopes_on a k
    behind_losses_lem = drop_is (flat loss_text a.losses) (isotopes_on a k) losses_are.len

    pub isotopes_are : spelled_isotopes (isotopes_on a k) ≡ walked (adduct_on a k) (isotopes_text (isotopes_map shortened (isotopes_map filled a.isotopes)))
    isotopes_are =
        let x = part (isotopes_text a.isotopes) (isotopes_marks a.isotopes) in
        let p = kept_part at (annotation_parts a) (kept_tail kept) x (later (later (later (later here)))) in
        let m = ends_middle a.charge a.deviation a.confidence e in
        isotopes_spelled a.isotopes (adduct_on a k) (adduct_ends a.losses a.isotopes a.adduct (third a k) m) (kept_told a.isotopes p.0 p.1)

    pub behind_isotopes_lem : behind_spelled_isotopes (isotopes_on a k) ≡ adduct_on a k
    behind_isotopes_lem =
        let z = ap (λ (w : Walked (List ℕ)). length w.rest) isotopes_are in
        let n : length (isotopes_on a k) - length (spelled_isotopes (isotopes_on a k)).rest ≡ length (isotopes_text a.isotopes) =
        omega (arith, z, length-append (isotopes_text a.isotopes) (adduct_on a k)) in
        drop_is (isotopes_text a.isotopes) (adduct_on a k) n

    pub adduct_is : AdductSpelled a.adduct (adduct_on a k)
    adduct_is =
        let x = part (adduct_text a.adduct) (adduct_marks a.adduct) in
        let p = kept_part at (annotation_parts a) (kept_tail kept) x (later (later (later (later (later here))))) in
        adduct_spelled_lem a.adduct (third a k) p.0 (ends_middle a.charge a.deviation a.confidence e).adduct p.1
