-- What may follow each part of an annotation. Assumes nothing.
use Prim.Native.Nat.{ℕ}
use mathlib.Core.Path.{sym, subst, ◌∙◌}
use mathlib.Core.List.{List, [], ◌∷◌, ◌++◌, append_assoc}
use Rattle.lang.specs.Parts.{Opt, silent, written, opt_text, flat, word_of}
use Rattle.rules.specs.Bytes.{bytes}
use Rattle.rules.specs.Numbers.{From, number_text}
use Rattle.rules.specs.Formulas.{Written, written_text}
use Rattle.rules.specs.Losses.{Sign, sign_text, Loss, lost_text, loss_text}
use Rattle.rules.specs.Isotopes.{Shift, shift_text, specific_text, Isotopes, no_isotope, plain_isotope, average_isotope, specific_isotopes, isotopes_text}
use Rattle.rules.specs.Adducts.{Item, added_text, item_text, adduct_text}
use Rattle.rules.specs.Confidences.{Confidence, in_full, from_point_lem, confidence_text}
use Rattle.rules.specs.Annotations.{Deviation, charge_text, deviation_text}

-- an annotation ends at the end of the line, or at a comma
pub data EndsAnnotation : List ℕ → Type 0 where
  at_end : EndsAnnotation []
  at_comma : (k : List ℕ) → EndsAnnotation (44 ∷ k)

-- ---- what is true of k is true of a part and k, if it is true of whatever begins as the part does

module _ (P : List ℕ → Type 0) where
  opt_keep : {A : Type 0} (text : A → List ℕ) → ((x : A) (s : List ℕ) → P (text x ++ s)) → (o : Opt A) (k : List ℕ) → P k → P (opt_text text o ++ k)
  opt_keep text h silent k e = e
  opt_keep text h (written x) k e = h x k

  -- what stands behind a sign
  module _ (sign : (g : Sign) (s : List ℕ) → P (sign_text g ++ s)) where
    sign_keep : (g : Sign) (w k : List ℕ) → P ((sign_text g ++ w) ++ k)
    sign_keep g w k = subst P (sym (append_assoc (sign_text g) w k)) (sign g (w ++ k))

    pub losses_keep : (xs : List (Loss Written)) (k : List ℕ) → P k → P (flat loss_text xs ++ k)
    losses_keep [] k e = e
    losses_keep (x ∷ xs) k e =
        subst P (sym (append_assoc (loss_text x) (flat loss_text xs) k)) (sign_keep x.sign (opt_text number_text x.count ++ lost_text x.what) (flat loss_text xs ++ k))

    shift_keep : (x : Shift Written) (k : List ℕ) → P (shift_text x ++ k)
    shift_keep x k = sign_keep x.sign (written_text x.count ++ bytes "i") k

    pub isotopes_keep : (x : Isotopes Written) (k : List ℕ) → P k → P (isotopes_text x ++ k)
    isotopes_keep no_isotope k e = e
    isotopes_keep (plain_isotope x) k e = shift_keep x k
    isotopes_keep (average_isotope x) k e = subst P (sym (append_assoc (shift_text x) (bytes "A") k)) (shift_keep x (bytes "A" ++ k))
    isotopes_keep (specific_isotopes xs) k e =
        let y = xs.first in
        let n = number_text y.nucleons ++ word_of y.symbol in
        let t = flat specific_text xs.more ++ k in
        subst P (sym (append_assoc (specific_text y) (flat specific_text xs.more) k)) (subst P (sym (append_assoc (shift_text y.shift) n t)) (shift_keep y.shift (n ++ t)))

  pub adduct_keep : ((g : Sign) (s : List ℕ) → P (91 ∷ 77 ∷ (sign_text g ++ s))) → (xs : List (Item Written)) (k : List ℕ) → P k → P (adduct_text xs ++ k)
  adduct_keep h [] k e = e
  adduct_keep h (x ∷ xs) k e =
      let w = written_text x.count ++ added_text x.what in
      let t = flat item_text xs in
      subst (λ (s : List ℕ). P (91 ∷ 77 ∷ s))
      (sym (append_assoc (item_text x ++ t) (bytes "]") k ∙ append_assoc (item_text x) t (bytes "]" ++ k) ∙ append_assoc (sign_text x.sign) w (t ++ (bytes "]" ++ k))))
      (h x.sign (w ++ (t ++ (bytes "]" ++ k))))

-- ---- behind the adduct

module _ (g : Opt (From 2)) (d : Opt Deviation) (c : Opt Confidence) (k : List ℕ) where
  abbrev pub behind_deviation : List ℕ
  behind_deviation = opt_text confidence_text c ++ k

  abbrev pub behind_charge : List ℕ
  behind_charge = opt_text deviation_text d ++ behind_deviation

  abbrev pub behind_adduct : List ℕ
  behind_adduct = opt_text charge_text g ++ behind_charge

  module _ (P : List ℕ → Type 0) (none : P []) (comma : (s : List ℕ) → P (44 ∷ s)) (e : EndsAnnotation k) where
    pub ends_keep : P k
    ends_keep = by e
      where
        by : {k : List ℕ} → EndsAnnotation k → P k
        by at_end = none
        by (at_comma k) = comma k

    module _ (star : (s : List ℕ) → P (42 ∷ s)) where
      pub confidence_keep : P behind_deviation
      confidence_keep = opt_keep P confidence_text by c k ends_keep
        where
          by : (x : Confidence) (s : List ℕ) → P (confidence_text x ++ s)
          by (in_full d) s = star _
          by (from_point_lem z) s = star _

      module _ (slash : (s : List ℕ) → P (47 ∷ s)) where
        pub deviation_keep : P behind_charge
        deviation_keep = opt_keep P deviation_text (λ x s. slash _) d behind_deviation confidence_keep

        module _ (caret : (s : List ℕ) → P (94 ∷ s)) where
          pub charge_keep : P behind_adduct
          charge_keep = opt_keep P charge_text (λ x s. caret _) g behind_charge deviation_keep
