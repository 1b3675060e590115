-- An annotation that is spelled: its text part by part, and the first broken limit of all its parts. Assumes nothing.
use Prim.Native.Nat.{ℕ, ◌-◌, ◌≤◌}
use mathlib.Core.Path.{◌≡◌, refl, ◌∙◌}
use mathlib.Core.List.{List, [], ◌∷◌, ◌++◌, append_assoc}
use lib.ListN.{length}
use Rattle.std.specs.Prelude.{Option}
use Rattle.lang.specs.Parts.{opt_text, flat}
use Rattle.lang.specs.Mark.{Part, marks_of}
use Rattle.rules.specs.Bytes.{bytes}
use Rattle.rules.specs.Ions.{ion_text}
use Rattle.rules.specs.Losses.{loss_text}
use Rattle.rules.specs.Isotopes.{isotopes_text}
use Rattle.rules.specs.Adducts.{adduct_text}
use Rattle.rules.specs.Confidences.{confidence_text}
use Rattle.rules.specs.Annotations.{SpelledAnnotation, flag_text, analyte_text, charge_text, deviation_text, annotation_text}
use Rattle.rules.specs.Limits.{bare, part, opt_part, row_part, analyte_part, ion_parts, loss_marks, isotopes_marks, adduct_marks, charge_part, deviation_part, confidence_part, annotation_parts}
use Rattle.faults.specs.declared.Refusal.{Refusal}
use Rattle.faults.specs.Faults.{after}
use Rattle.read_annotation.proofs.Chains.{opt_text_lem, inside, first_part}
use Rattle.read_annotation.proofs.Ends.{behind_adduct, behind_charge, behind_deviation}
use Rattle.read_annotation.proofs.Tails.{charge_fault, deviation_fault, confidence_fault}
use Rattle.read_annotation.proofs.Middles.{behind_ion, behind_losses, behind_isotopes, losses_fault, isotopes_fault, adduct_fault}
use Rattle.read_annotation.proofs.Fronts.{behind_flag, front_text, prefix_fault, ion_fault}

module _ (a : SpelledAnnotation) (k : List ℕ) where
  -- what is left behind the adduct, behind the ion, and all
  abbrev pub third : List ℕ
  third = behind_adduct a.charge a.deviation a.confidence k

  -- behind the isotopes, and behind the losses
  abbrev pub adduct_on : List ℕ
  adduct_on = behind_isotopes a.losses a.isotopes a.adduct third

  abbrev pub isotopes_on : List ℕ
  isotopes_on = behind_losses a.losses a.isotopes a.adduct third

  abbrev pub second : List ℕ
  second = behind_ion a.losses a.isotopes a.adduct third

  abbrev pub first : List ℕ
  first = front_text a.marked a.analyte a.ion second

  pub text_is : annotation_text a ++ k ≡ first
  text_is = simp append_assoc

  module _ (end : ℕ) (f : Option Refusal) where
    -- the first broken limit behind the ion, behind the adduct, and of all
    abbrev pub fault1 : Option Refusal
    fault1 = ion_fault a.marked a.analyte a.ion second end f

    abbrev pub fault2 : Option Refusal
    fault2 = adduct_fault a.losses a.isotopes a.adduct third end fault1

    abbrev pub fault3 : Option Refusal
    fault3 = confidence_fault a.charge a.deviation a.confidence k end fault2

    pub marks_are : length first ≤ end → after f (marks_of (end - length first) (annotation_parts a)) ≡ fault3
    marks_are h =
        let m = flag_text (bytes "&") a.marked in
        let n = opt_text analyte_text a.analyte in
        let x = ion_text a.ion in
        let l = flat loss_text a.losses in
        let y = isotopes_text a.isotopes in
        let d = adduct_text a.adduct in
        let g = opt_text charge_text a.charge in
        let v = opt_text deviation_text a.deviation in
        let c = opt_text confidence_text a.confidence in
        let s1 = behind_flag a.marked a.analyte a.ion second in
        let s2 = x ++ second in
        let s7 = behind_charge a.charge a.deviation a.confidence k in
        let s8 = behind_deviation a.charge a.deviation a.confidence k in
        let p9 : List Part = opt_part confidence_part a.confidence ∷ [] in
        let p8 : List Part = opt_part deviation_part a.deviation ∷ p9 in
        let p7 : List Part = opt_part charge_part a.charge ∷ p8 in
        let p6 : List Part = part d (adduct_marks a.adduct) ∷ p7 in
        let p5 : List Part = part y (isotopes_marks a.isotopes) ∷ p6 in
        let p4 : List Part = row_part loss_text loss_marks a.losses ∷ p5 in
        let p3 : List Part = part x (λ at. marks_of at (ion_parts a.ion)) ∷ p4 in
        let p2 : List Part = opt_part analyte_part a.analyte ∷ p3 in
        let h1 = inside m s1 h in
        let h2 = inside n s2 h1 in
        let h3 = inside x second h2 in
        let h4 = inside l isotopes_on h3 in
        let h5 = inside y adduct_on h4 in
        let h6 = inside d third h5 in
        let h7 = inside g s7 h6 in
        let h8 = inside v s8 h7 in
        let f1 = prefix_fault a.marked a.analyte a.ion second end f in
        let f3 = losses_fault a.losses a.isotopes a.adduct third end fault1 in
        let f4 = isotopes_fault a.losses a.isotopes a.adduct third end fault1 in
        let f6 = charge_fault a.charge a.deviation a.confidence k end fault2 in
        let f7 = deviation_fault a.charge a.deviation a.confidence k end fault2 in
        first_part m s1 f (bare m) p2 refl h
        ∙ first_part n s2 f (opt_part analyte_part a.analyte) p3 (opt_text_lem analyte_part analyte_text (λ z. refl) a.analyte) h1
        ∙ first_part x second f1 (part x (λ at. marks_of at (ion_parts a.ion))) p4 refl h2
        ∙ first_part l isotopes_on fault1 (row_part loss_text loss_marks a.losses) p5 refl h3
        ∙ first_part y adduct_on f3 (part y (isotopes_marks a.isotopes)) p6 refl h4
        ∙ first_part d third f4 (part d (adduct_marks a.adduct)) p7 refl h5
        ∙ first_part g s7 fault2 (opt_part charge_part a.charge) p8 (opt_text_lem charge_part charge_text (λ z. refl) a.charge) h6
        ∙ first_part v s8 f6 (opt_part deviation_part a.deviation) p9 (opt_text_lem deviation_part deviation_text (λ z. refl) a.deviation) h7
        ∙ first_part c k f7 (opt_part confidence_part a.confidence) [] (opt_text_lem confidence_part confidence_text (λ z. refl) a.confidence) h8
