-- Document 01, "One table, several spellings": an annotation without formula, with one loss and one adduct item at most, and with no `1`
-- in losses, isotopes and adduct, is spelled as it is preferred. Assumes nothing.
use Prim.Native.Nat.{ℕ, ◌≤◌}
use mathlib.Core.Path.{◌≡◌, refl, sym, ap, ap₂, ◌∙◌}
use mathlib.Core.Bool.{Bool, true, false, ◌||◌}
use mathlib.Core.List.{List, [], ◌∷◌, ◌++◌, map}
use native.Mathlib.Omega.{arith}
use lib.Dec.{T, eqb, leb, leb→le}
use lib.ListN.{length, length-map}
use borrow.Author.Tests.{leb-true}
use Rattle.lang.specs.Parts.{silent, written, Some, some_map, opt_text, flat, word_of}
use Rattle.lang.specs.Order.{same, rising}
use Rattle.lang.proofs.Tests.{is_t, not_t}
use Rattle.rules.specs.Bytes.{bytes}
use Rattle.rules.specs.Numbers.{digits, number_text}
use Rattle.rules.specs.Formulas.{Written, written_text, FormulaUnit, plain, labelled, unit_text, unit_map, Formula, formula_text, formula_map}
use Rattle.rules.specs.Ions.{series, internal, immonium, precursor, reference, named, composed, smiles, unknown, ion_map, SpelledIon}
use Rattle.rules.specs.Losses.{sign_text, Lost, lost_formula, lost_name_lem, lost_text, lost_map, Loss, loss_text, loss_map}
use Rattle.rules.specs.Isotopes.{Shift, shift_text, shift_map, Specific, specific_text, specific_map, Isotopes, no_isotope, plain_isotope, average_isotope, specific_isotopes, isotopes_text, isotopes_map}
use Rattle.rules.specs.Adducts.{Added, added_formula, electron, added_text, added_map, Item, item_text, item_map, adduct_text}
use Rattle.rules.specs.Annotations.{SpelledAnnotation, annotation_text}
use Rattle.rules.specs.Preferred.{shortened, loss_le, item_le, shortened_cut}
use Rattle.rules.specs.Fields.{filled, filled_cut}
use Rattle.rules.specs.Stored.{ion_fields}
use Rattle.rules.proofs.Digits.{digits_small}
use Rattle.rules.proofs.Confidences.{zero_left_out, in_full_kept}
pub use Rattle.read_ion.proofs.SpelledYb.{yb_written}
use Rattle.read_annotation.proofs.SaysWhat.{table_of, says_so}
use Rattle.read_annotation.proofs.Respelling.{first_preferred, Respelling}
use Rattle.respell_annotation.specs.Kept.{has_one}

-- ---- no `1` in bytes is none in a part of them

one_append : (x y : List ℕ) → has_one (x ++ y) ≡ (has_one x || has_one y)
unfolding has_one
one_append [] y = refl
one_append (b ∷ x) y = ap (λ (t : Bool). eqb b 49 || t) (one_append x y) ∙ either_of (eqb b 49) (has_one x) (has_one y)
  where
    either_of : (a b c : Bool) → (a || (b || c)) ≡ ((a || b) || c)
    either_of true b c = refl
    either_of false b c = refl

pub none_0 : (a b : Bool) → (a || b) ≡ false → a ≡ false
none_0 true b e = e
none_0 false b e = refl

pub none_1 : (a b : Bool) → (a || b) ≡ false → b ≡ false
none_1 true b e = absurd (not_t e tt)
none_1 false b e = e

front : (x y : List ℕ) → has_one (x ++ y) ≡ false → has_one x ≡ false
front x y e = none_0 (has_one x) (has_one y) (sym (one_append x y) ∙ e)

back : (x y : List ℕ) → has_one (x ++ y) ≡ false → has_one y ≡ false
back x y e = none_1 (has_one x) (has_one y) (sym (one_append x y) ∙ e)

-- ---- a count that has no `1` is written as it is preferred, and so is all that has such counts

one_has : (n : ℕ) → n ≡ 1 → has_one (digits n) ≡ true
unfolding has_one
one_has n e = ap (λ (m : ℕ). has_one (digits m)) e ∙ ap has_one (digits_small 1 (omega arith))

count_kept : (c : Written) → has_one (written_text c) ≡ false → c ≡ shortened (filled c)
count_kept silent h = refl
count_kept (written n) h = by (leb n.value 1) refl
  where
    by : (t : Bool) → leb n.value 1 ≡ t → written n ≡ elim t [ true ↦ silent | false ↦ written n ]
    by true e =
        let g = leb→le 1 n.value n.least in
        let l = leb-true n.value 1 e in
        let z : n.value ≡ 1 = omega arith in
        absurd (not_t h (is_t (one_has n.value z)))
    by false e = refl

-- lists
module _ {A B : Type 0} (text : A → List ℕ) (f : A → B) (g : B → A) (kept : (x : A) → has_one (text x) ≡ false → x ≡ g (f x)) where
  all_kept : (l : List A) → has_one (flat text l) ≡ false → l ≡ map g (map f l)
  all_kept [] h = refl
  all_kept (x ∷ l) h = ap₂ ◌∷◌ (kept x (front (text x) (flat text l) h)) (all_kept l (back (text x) (flat text l) h))

  some_kept : (s : Some A) → has_one (text s.first ++ flat text s.more) ≡ false → s ≡ some_map g (some_map f s)
  some_kept s h =
      let p = kept s.first (front (text s.first) (flat text s.more) h) in
      let q = all_kept s.more (back (text s.first) (flat text s.more) h) in
      λ i. record { first = p i; more = q i }

unit_kept : (u : FormulaUnit Written) → has_one (unit_text u) ≡ false → u ≡ unit_map shortened (unit_map filled u)
unit_kept (plain s c) h = ap (plain s) (count_kept c (back (word_of s) (written_text c) h))
unit_kept (labelled a s c) h = refl

formula_kept : (f : Formula Written) → has_one (formula_text f) ≡ false → f ≡ formula_map shortened (formula_map filled f)
formula_kept f h = some_kept unit_text (unit_map filled) (unit_map shortened) unit_kept f h

lost_kept : (x : Lost Written) → has_one (lost_text x) ≡ false → x ≡ lost_map shortened (lost_map filled x)
lost_kept (lost_formula f) h = ap lost_formula (formula_kept f h)
lost_kept (lost_name_lem n) h = refl

loss_kept : (l : Loss Written) → has_one (loss_text l) ≡ false → l ≡ loss_map shortened (loss_map filled l)
loss_kept l h =
    let count = opt_text number_text l.count in
    let q = lost_kept l.what (back count (lost_text l.what) (back (sign_text l.sign) (count ++ lost_text l.what) h)) in
    λ i. record { sign = l.sign; count = l.count; what = q i }

shift_kept : (x : Shift Written) → has_one (shift_text x) ≡ false → x ≡ shift_map shortened (shift_map filled x)
shift_kept x h =
    let count = written_text x.count in
    let q = count_kept x.count (front count (bytes "i") (back (sign_text x.sign) (count ++ bytes "i") h)) in
    λ i. record { sign = x.sign; count = q i }

specific_kept : (x : Specific Written) → has_one (specific_text x) ≡ false → x ≡ specific_map shortened (specific_map filled x)
specific_kept x h =
    let q = shift_kept x.shift (front (shift_text x.shift) (number_text x.nucleons ++ word_of x.symbol) h) in
    λ i. record { shift = q i; nucleons = x.nucleons; symbol = x.symbol }

isotopes_kept : (x : Isotopes Written) → has_one (isotopes_text x) ≡ false → x ≡ isotopes_map shortened (isotopes_map filled x)
isotopes_kept no_isotope h = refl
isotopes_kept (plain_isotope x) h = ap plain_isotope (shift_kept x h)
isotopes_kept (average_isotope x) h = ap average_isotope (shift_kept x (front (shift_text x) (bytes "A") h))
isotopes_kept (specific_isotopes xs) h = ap specific_isotopes (some_kept specific_text (specific_map filled) (specific_map shortened) specific_kept xs h)

added_kept : (x : Added Written) → has_one (added_text x) ≡ false → x ≡ added_map shortened (added_map filled x)
added_kept (added_formula f) h = ap added_formula (formula_kept f h)
added_kept electron h = refl

item_kept : (x : Item Written) → has_one (item_text x) ≡ false → x ≡ item_map shortened (item_map filled x)
item_kept x h =
    let count = written_text x.count in
    let what = added_text x.what in
    let t = back (sign_text x.sign) (count ++ what) h in
    let p = count_kept x.count (front count what t) in
    let q = added_kept x.what (back count what t) in
    λ i. record { sign = x.sign; count = p i; what = q i }

adduct_kept : (xs : List (Item Written)) → has_one (adduct_text xs) ≡ false → xs ≡ map (item_map shortened) (map (item_map filled) xs)
adduct_kept [] h = refl
adduct_kept (x ∷ xs) h =
    let w = flat item_text (x ∷ xs) in
    all_kept item_text (item_map filled) (item_map shortened) item_kept (x ∷ xs) (front w (bytes "]") (back (bytes "[M") (w ++ bytes "]") h))

-- an ion that is no formula has no free count
pub ion_filled : (x : SpelledIon) → length (ion_fields (ion_map filled filled_cut x)).units ≡ 0 → yb_written x ≡ false → x ≡ ion_map shortened shortened_cut (ion_map filled filled_cut x)
ion_filled (series s n t) e y = refl
ion_filled (internal silent m n t) e y = refl
ion_filled (internal (written c) m n t) e y = rw (shortened_cut, y) refl
ion_filled (immonium a m) e y = refl
ion_filled precursor e y = refl
ion_filled (reference n) e y = refl
ion_filled (named t) e y = refl
ion_filled (composed f) e y = absurd (omega arith)
ion_filled (smiles t) e y = refl
ion_filled (unknown n) e y = refl

-- ---- one at most is in order

one_rises : {A : Type 0} (before : A → A → Bool) (l : List A) → length l ≤ 1 → T (rising before l)
one_rises before [] h = tt
one_rises before (x ∷ []) h = tt
one_rises before (x ∷ y ∷ l) h = absurd (omega arith)

-- ---- the annotation

pub kept_respelled : (a : SpelledAnnotation) → length (ion_fields (ion_map filled filled_cut a.ion)).units ≡ 0 → length a.losses ≤ 1 → length a.adduct ≤ 1
    → zero_left_out a.confidence ≡ false → yb_written a.ion ≡ false → has_one (flat loss_text a.losses ++ (isotopes_text a.isotopes ++ adduct_text a.adduct)) ≡ false
    → Respelling first_preferred a (annotation_text a)
kept_respelled a u l d z w h =
    let ls = flat loss_text a.losses in
    let y = isotopes_text a.isotopes in
    let x = adduct_text a.adduct in
    let losses = map (loss_map filled) a.losses in
    let adduct = map (item_map filled) a.adduct in
    let n : length losses ≤ 1 = omega (arith, length-map a.losses (loss_map filled)) in
    let m : length adduct ≤ 1 = omega (arith, length-map a.adduct (item_map filled)) in
    let ion_is = ion_filled a.ion u w in
    let losses_are = all_kept loss_text (loss_map filled) (loss_map shortened) loss_kept a.losses (front ls (y ++ x) h) in
    let isotopes_are = isotopes_kept a.isotopes (front y x (back ls (y ++ x) h)) in
    let confidence-is = in_full_kept a.confidence z in
    let adduct_is = adduct_kept a.adduct (back y x (back ls (y ++ x) h)) in
    record {
      table = table_of a losses adduct;
      says = says_so a losses adduct same (one_rises loss_le losses n) same (one_rises item_le adduct m);
      is =
          λ i. annotation_text (record {
            marked = a.marked;
            analyte = a.analyte;
            ion = ion_is i;
            losses = losses_are i;
            isotopes = isotopes_are i;
            adduct = adduct_is i;
            charge = a.charge;
            deviation = a.deviation;
            confidence = confidence-is i;
          });
    }
