-- The events of an annotation that is spelled, and the bytes of each section. Assumes nothing.
use Prim.Native.Nat.{ℕ}
use mathlib.Core.Path.{◌≡◌, ap, ◌∙◌}
use mathlib.Core.List.{List, [], ◌∷◌, ◌++◌}
use Rattle.std.specs.Prelude.{Option}
use Rattle.lang.specs.Mark.{Kept}
use Rattle.rules.specs.Annotations.{SpelledAnnotation}
use Rattle.rules.specs.Limits.{annotation_marks}
use Rattle.rules.specs.Layout.{annotation_section, isotope_section}
use Rattle.faults.specs.declared.Refusal.{Refusal}
use Rattle.store_sections.specs.Pages.{Event, bytes_for, bytes_of}
use Rattle.store_sections.proofs.Events.{bytes_append}
use Rattle.sort_changes.specs.Events.{behind_changes}
use Rattle.read_annotation.proofs.SpelledAnnotation.{EndsAnnotation, first, second, isotopes_on, adduct_on, behind_ion_lem}
use Rattle.rules.specs.Editions.{Edition}
use Rattle.store_annotation.specs.Events.{behind_filed_isotopes, events_with, annotation_events}
use Rattle.store_annotation.proofs.Rests.{behind_losses_lem, behind_isotopes_lem}
use Rattle.store_annotation.proofs.Records.{seen}

-- ---- the bytes of a section, part by part

pub share_all : (j : ℕ) (is ls : List Event) (b : List ℕ) (xs : List Event) (r : List ℕ)
    → bytes_of j (is ++ (ls ++ ((isotope_section, b) ∷ (xs ++ ((annotation_section, r) ∷ []))))) ≡ bytes_of j is ++ (bytes_of j ls ++ (bytes_for j (isotope_section, b) ++ (bytes_of j xs ++ (bytes_for j (annotation_section, r) ++ []))))
share_all j is ls b xs r =
    bytes_append j is (ls ++ ((isotope_section, b) ∷ (xs ++ ((annotation_section, r) ∷ []))))
    ∙ ap (λ (l : List ℕ). bytes_of j is ++ l)
    (bytes_append j ls ((isotope_section, b) ∷ (xs ++ ((annotation_section, r) ∷ [])))
    ∙ ap (λ (l : List ℕ). bytes_of j ls ++ (bytes_for j (isotope_section, b) ++ l)) (bytes_append j xs ((annotation_section, r) ∷ [])))

-- ---- what is read, all at once

module _ (edition : Edition) (a : SpelledAnnotation) (k : List ℕ) (nth end : ℕ) (f : Option Refusal) (e : EndsAnnotation k) (i at : ℕ) (kept : Kept (annotation_marks i a at)) where
  pub events_are : annotation_events edition (first a k) (seen a k nth end f)
      ≡ events_with edition (first a k) (second a k) (isotopes_on a k) (adduct_on a k) (seen a k nth end f).front (seen a k nth end f).tail
  unfolding annotation_events
  events_are =
      let q1 = behind_ion_lem a k nth end f in
      let q2 = ap behind_changes q1 ∙ behind_losses_lem a k e i at kept in
      let q3 = ap behind_filed_isotopes q2 ∙ behind_isotopes_lem a k e i at kept in
      λ j. events_with edition (first a k) (q1 j) (q2 j) (q3 j) (seen a k nth end f).front (seen a k nth end f).tail
