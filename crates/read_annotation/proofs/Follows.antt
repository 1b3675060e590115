-- What stands behind the ion and behind the adduct of an annotation goes on with neither. Assumes nothing.
use Prim.Native.Nat.{ℕ}
use mathlib.Core.Path.{◌≡◌, refl}
use mathlib.Core.Bool.{false}
use mathlib.Core.List.{List, [], ◌∷◌, ◌++◌}
use Rattle.lang.specs.Parts.{Opt}
use Rattle.rules.specs.Bytes.{bytes, digit}
use Rattle.rules.specs.Texts.{first_in, starts_with}
use Rattle.rules.specs.Numbers.{From}
use Rattle.rules.specs.Formulas.{Written}
use Rattle.rules.specs.Losses.{Sign, minus, plus, sign_text, Loss}
use Rattle.rules.specs.Isotopes.{Isotopes}
use Rattle.rules.specs.Adducts.{Item}
use Rattle.rules.specs.Confidences.{Confidence}
use Rattle.rules.specs.Annotations.{Deviation}
use Rattle.read_formula.proofs.Ends.{EndsFormula, ends_apart}
use Rattle.read_isotopes.proofs.Ends.{EndsIsotopes}
use Rattle.read_ion.specs.Kinds.{opens_modification}
use Rattle.read_ion.proofs.SpelledIon.{EndsIon}
use Rattle.read_annotation.proofs.Ends.{EndsAnnotation, behind_adduct, charge_keep, losses_keep, isotopes_keep, adduct_keep}
use Rattle.read_annotation.proofs.Middles.{EndsMiddle, behind_ion, behind_losses, behind_isotopes}

module _ (g : Opt (From 2)) (d : Opt Deviation) (c : Opt Confidence) {k : List ℕ} (e : EndsAnnotation k) where
  pub ends_middle : EndsMiddle (behind_adduct g d c k)
  ends_middle =
      record {
        isotopes = charge_keep g d c k EndsIsotopes refl (λ s. refl) e (λ s. refl) (λ s. refl) (λ s. refl);
        formula = charge_keep g d c k EndsFormula (ends_apart [] refl) (λ s. ends_apart (44 ∷ s) refl) e (λ s. ends_apart (42 ∷ s) refl) (λ s. ends_apart (47 ∷ s) refl) (λ s. ends_apart (94 ∷ s) refl);
        adduct = charge_keep g d c k (λ s. starts_with (bytes "[M") s ≡ false) refl (λ s. refl) e (λ s. refl) (λ s. refl) (λ s. refl);
      }

  -- what is true of anything that begins as the parts do is true of all that stands behind the ion
  module _ (ls : List (Loss Written)) (y : Isotopes Written) (xs : List (Item Written)) where
    behind_keep : (P : List ℕ → Type 0) → ((h : Sign) (s : List ℕ) → P (sign_text h ++ s)) → ((h : Sign) (s : List ℕ) → P (91 ∷ 77 ∷ (sign_text h ++ s)))
        → P (behind_adduct g d c k) → P (behind_ion ls y xs (behind_adduct g d c k))
    behind_keep P sign adduct p =
        losses_keep P sign ls (behind_losses ls y xs (behind_adduct g d c k))
        (isotopes_keep P sign y (behind_isotopes ls y xs (behind_adduct g d c k)) (adduct_keep P adduct xs (behind_adduct g d c k) p))

    ion_no_digit : first_in digit (behind_ion ls y xs (behind_adduct g d c k)) ≡ false
    ion_no_digit = behind_keep (λ s. first_in digit s ≡ false) by (λ h s. refl) (charge_keep g d c k (λ s. first_in digit s ≡ false) refl (λ s. refl) e (λ s. refl) (λ s. refl) (λ s. refl))
      where
        by : (h : Sign) (s : List ℕ) → first_in digit (sign_text h ++ s) ≡ false
        by minus s = refl
        by plus s = refl

    ion_no_brace : starts_with (bytes "{") (behind_ion ls y xs (behind_adduct g d c k)) ≡ false
    ion_no_brace = behind_keep (λ s. starts_with (bytes "{") s ≡ false) by (λ h s. refl) (charge_keep g d c k (λ s. starts_with (bytes "{") s ≡ false) refl (λ s. refl) e (λ s. refl) (λ s. refl) (λ s. refl))
      where
        by : (h : Sign) (s : List ℕ) → starts_with (bytes "{") (sign_text h ++ s) ≡ false
        by minus s = refl
        by plus s = refl

    -- an adduct is no modification: a sign stands behind its `[M`
    ion_no_modification : opens_modification (behind_ion ls y xs (behind_adduct g d c k)) ≡ false
    unfolding opens_modification
    ion_no_modification =
        behind_keep (λ s. opens_modification s ≡ false) by also
        (charge_keep g d c k (λ s. opens_modification s ≡ false) refl (λ s. refl) e (λ s. refl) (λ s. refl) (λ s. refl))
      where
        by : (h : Sign) (s : List ℕ) → opens_modification (sign_text h ++ s) ≡ false
        by minus s = refl
        by plus s = refl

        also : (h : Sign) (s : List ℕ) → opens_modification (91 ∷ 77 ∷ (sign_text h ++ s)) ≡ false
        also minus s = refl
        also plus s = refl

    pub ends_ion : EndsIon (behind_ion ls y xs (behind_adduct g d c k))
    ends_ion = record { no_digit = ion_no_digit; no_brace = ion_no_brace; no_modification = ion_no_modification }
