-- What is read of losses, isotopes and adduct that are spelled. Assumes nothing.
use Prim.Native.Nat.{ℕ, ◌+◌, ◌-◌, ◌≤◌}
use mathlib.Core.Path.{◌≡◌, refl, sym}
use mathlib.Core.Bool.{false}
use mathlib.Core.List.{List, ◌∷◌, ◌++◌, map}
use native.Mathlib.Omega.{arith}
use lib.ListN.{length, length-append}
use Rattle.std.specs.Prelude.{Option}
use Rattle.lang.specs.Parts.{flat}
use Rattle.rules.specs.Bytes.{bytes}
use Rattle.rules.specs.Texts.{starts_with}
use Rattle.rules.specs.Formulas.{Written}
use Rattle.rules.specs.Losses.{Sign, minus, plus, sign_text, Loss, loss_text, loss_map}
use Rattle.rules.specs.Isotopes.{Isotopes, isotopes_text, isotopes_map}
use Rattle.rules.specs.Adducts.{Item, adduct_text, item_map}
use Rattle.rules.specs.Fields.{filled}
use Rattle.rules.specs.Limits.{row_marks, loss_marks, isotopes_marks, adduct_marks}
use Rattle.rules.specs.Stored.{lost_units, lost_name, added_units, isotope_records}
use Rattle.counts.specs.Sums.{sum}
use Rattle.faults.specs.declared.Refusal.{Refusal}
use Rattle.faults.specs.Faults.{after}
use Rattle.read_formula.proofs.Ends.{EndsFormula, ends_apart, ends_adduct}
use Rattle.read_opening.proofs.SpelledOpenings.{no_sign}
use Rattle.read_changes.proofs.SpelledChanges.{EndsChanges, losses_read}
use Rattle.read_isotopes.proofs.Ends.{EndsIsotopes, ends_sign}
use Rattle.read_isotopes.proofs.SpelledIsotopes.{isotopes_begin, isotopes_read}
use Rattle.read_annotation.specs.declared.Middle.{Middle}
use Rattle.read_annotation.specs.Groups.{middle_of}
use Rattle.read_annotation.proofs.Groups.{middle_is}
use Rattle.read_annotation.proofs.Ends.{isotopes_keep, adduct_keep}
use Rattle.read_annotation.proofs.Chains.{drop_is, inside}
use Rattle.read_annotation.proofs.Adducts.{adduct_read_lem}

-- what follows goes on neither with losses nor with isotopes nor with an adduct
pub record EndsMiddle (k : List ℕ) : Type 0 where
  pub isotopes : EndsIsotopes k
  pub formula : EndsFormula k
  pub adduct : starts_with (bytes "[M") k ≡ false

module _ (ls : List (Loss Written)) (y : Isotopes Written) (xs : List (Item Written)) (k : List ℕ) where
  abbrev pub behind_isotopes : List ℕ
  behind_isotopes = adduct_text xs ++ k

  abbrev pub behind_losses : List ℕ
  behind_losses = isotopes_text y ++ behind_isotopes

  abbrev pub behind_ion : List ℕ
  behind_ion = flat loss_text ls ++ behind_losses

  module _ (e : EndsMiddle k) where
    pub adduct_ends : EndsIsotopes behind_isotopes
    adduct_ends = adduct_keep EndsIsotopes (λ g s. refl) xs k e.isotopes

    formula_ends : EndsFormula behind_losses
    formula_ends = isotopes_keep EndsFormula sign_ends y behind_isotopes (adduct_keep EndsFormula (λ g s. ends_adduct (sign_text g ++ s)) xs k e.formula)
      where
        sign_ends : (g : Sign) (s : List ℕ) → EndsFormula (sign_text g ++ s)
        sign_ends minus s = ends_apart (45 ∷ s) refl
        sign_ends plus s = ends_apart (43 ∷ s) refl

    pub losses_ends : EndsChanges behind_losses
    losses_ends = record { formula = formula_ends; none = isotopes_begin y behind_isotopes (no_sign behind_isotopes (ends_sign behind_isotopes adduct_ends)).0 }

  module _ (end : ℕ) (f : Option Refusal) where
    -- the first broken limit behind each
    abbrev pub losses_fault : Option Refusal
    losses_fault = after f (row_marks loss_text loss_marks 0 ls (end - length behind_ion))

    abbrev pub isotopes_fault : Option Refusal
    isotopes_fault = after losses_fault (isotopes_marks y (end - length behind_losses))

    abbrev pub adduct_fault : Option Refusal
    adduct_fault = after isotopes_fault (adduct_marks xs (end - length behind_isotopes))

    abbrev pub middle_read : Middle
    middle_read =
        record {
          counts =
              record {
                annotations = 0;
                losses = length ls;
                isotopes = length (isotope_records (isotopes_map filled y));
                items = length xs;
                units = sum (length (flat (λ l. lost_units l.what) (map (loss_map filled) ls))) (length (flat (λ x. added_units x.what) (map (item_map filled) xs)));
                text = length (flat (λ l. lost_name l.what) (map (loss_map filled) ls));
              };
          len = length (flat loss_text ls) + length (isotopes_text y) + length (adduct_text xs);
          fault = adduct_fault;
        }

    module _ (e : EndsMiddle k) (h : length behind_ion ≤ end) where
      pub middle_read_lem : middle_of end behind_ion f ≡ middle_read
      middle_read_lem =
          let t = behind_losses in
          let u = behind_isotopes in
          let ht = inside (flat loss_text ls) t h in
          let hu = inside (isotopes_text y) u ht in
          let n : length (flat loss_text ls) + length (isotopes_text y) + length (adduct_text xs) ≡ length behind_ion - length k =
          omega (arith, length-append (flat loss_text ls) t, length-append (isotopes_text y) u, length-append (adduct_text xs) k) in
          sym (middle_is end behind_ion f (sym (losses_read ls t end f (losses_ends e) h)) (sym (drop_is (flat loss_text ls) t refl))
          (sym (isotopes_read y u end losses_fault (adduct_ends e) ht)) (sym (drop_is (isotopes_text y) u refl))
          (sym (adduct_read_lem xs k end isotopes_fault e.adduct hu)) refl (sym (drop_is (adduct_text xs) k refl)) n)
