-- What is stored of each part of an annotation that is spelled, and what is left behind it. Assumes nothing.
use Prim.Native.Nat.{ℕ, ◌-◌}
use mathlib.Core.Path.{◌≡◌, ap}
use mathlib.Core.List.{List, ◌++◌, map}
use native.Mathlib.Omega.{arith}
use lib.ListN.{length, drop, length-append}
use Rattle.lang.specs.Parts.{flat}
use Rattle.lang.specs.Mark.{Kept, here, later}
use Rattle.lang.specs.Walk.{Walked}
use Rattle.rules.specs.Ions.{ion_text}
use Rattle.rules.specs.Losses.{loss_text, loss_map}
use Rattle.rules.specs.Isotopes.{isotopes_text, isotopes_map}
use Rattle.rules.specs.Adducts.{adduct_text}
use Rattle.rules.specs.Annotations.{SpelledAnnotation}
use Rattle.rules.specs.Fields.{filled}
use Rattle.rules.specs.Limits.{part, row_part, loss_marks, isotopes_marks, adduct_marks, annotation_parts, annotation_marks}
use Rattle.rules.specs.Stored.{stores, isotope_records}
use Rattle.rules.proofs.Keeps.{kept_tail, kept_part}
use Rattle.read_isotopes.specs.Records.{Filed, filed_isotopes}
use Rattle.read_isotopes.proofs.Stores.{isotopes_stored, kept_told}
use Rattle.sort_changes.specs.Events.{behind_changes}
use Rattle.sort_changes.proofs.StoredChanges.{LossesStored, losses_stored}
use Rattle.sort_changes.proofs.Fits.{losses_fit}
use Rattle.read_annotation.proofs.Chains.{drop_is}
use Rattle.read_annotation.proofs.SpelledAnnotation.{EndsAnnotation, prefix_length, first, second, third, isotopes_on, adduct_on, ends_middle, losses_ends, adduct_ends, behind_prefix}
use Rattle.store_annotation.specs.Events.{behind_filed_isotopes}
use Rattle.store_annotation.proofs.Adducts.{AdductStored, adduct_stored}

module _ (a : SpelledAnnotation) (k : List ℕ) where
  -- what is left behind the prefix
  pub ion_at : drop (prefix_length a.marked a.analyte) (first a k) ≡ ion_text a.ion ++ second a k
  ion_at = behind_prefix a.marked a.analyte a.ion (second a k)

  module _ (e : EndsAnnotation k) (i at : ℕ) (kept : Kept (annotation_marks i a at)) where
    pub losses_are : LossesStored (map (loss_map filled) a.losses) (second a k) (length (flat loss_text a.losses))
    losses_are =
        let p = kept_part at (annotation_parts a) (kept_tail kept) (row_part loss_text loss_marks a.losses) (later (later (later here))) in
        let m = ends_middle a.charge a.deviation a.confidence e in
        losses_stored a.losses (isotopes_on a k) (losses_ends a.losses a.isotopes a.adduct (third a k) m) (losses_fit a.losses p.0 p.1)

    pub behind_losses_lem : behind_changes (second a k) ≡ isotopes_on a k
    behind_losses_lem = drop_is (flat loss_text a.losses) (isotopes_on a k) losses_are.len

    pub isotopes_are : filed_isotopes (isotopes_on a k)
        ≡ record { rest = adduct_on a k; known = record { n = length (isotope_records (isotopes_map filled a.isotopes)); bytes = flat (λ r. stores r) (isotope_records (isotopes_map filled a.isotopes)) } }
    isotopes_are =
        let p = kept_part at (annotation_parts a) (kept_tail kept) (part (isotopes_text a.isotopes) (isotopes_marks a.isotopes)) (later (later (later (later here)))) in
        let m = ends_middle a.charge a.deviation a.confidence e in
        isotopes_stored a.isotopes (adduct_on a k) (adduct_ends a.losses a.isotopes a.adduct (third a k) m) (kept_told a.isotopes p.0 p.1)

    pub behind_isotopes_lem : behind_filed_isotopes (isotopes_on a k) ≡ adduct_on a k
    behind_isotopes_lem =
        let z = ap (λ (w : Walked Filed). length w.rest) isotopes_are in
        let n : length (isotopes_on a k) - length (filed_isotopes (isotopes_on a k)).rest ≡ length (isotopes_text a.isotopes) =
        omega (arith, z, length-append (isotopes_text a.isotopes) (adduct_on a k)) in
        drop_is (isotopes_text a.isotopes) (adduct_on a k) n

    pub adduct_is : AdductStored a.adduct (adduct_on a k)
    adduct_is =
        let p = kept_part at (annotation_parts a) (kept_tail kept) (part (adduct_text a.adduct) (adduct_marks a.adduct)) (later (later (later (later (later here))))) in
        adduct_stored a.adduct (third a k) p.0 (ends_middle a.charge a.deviation a.confidence e).adduct p.1
