-- The parts of an annotation, as they are stored, and what is printed of them: part by part, from the laws of those who print them.
-- What an edition adds to the record stands behind what is printed, and is gone over with it. Assumes nothing.
use Prim.Native.Nat.{ℕ, suc, ◌*◌, ◌%◌, ◌≤◌, min}
use mathlib.Core.Path.{◌≡◌, refl, sym, ap, ap₂, ◌∙◌}
use mathlib.Core.List.{List, [], ◌∷◌, ◌++◌, append_assoc, map}
use native.Mathlib.Omega.{arith}
use lib.ListN.{length, drop}
use lib.Seq.{drop-append_seam}
use borrow.Author.Tests.{ne_eqb}
use Rattle.lang.specs.Parts.{flat, opt_text}
use Rattle.rules.specs.Bytes.{bytes}
use Rattle.rules.specs.Numbers.{Number}
use Rattle.rules.specs.Formulas.{FormulaUnit}
use Rattle.rules.specs.Ions.{ion_text, ion_map}
use Rattle.rules.specs.Losses.{loss_text, loss_map}
use Rattle.rules.specs.Isotopes.{isotopes_map, isotopes_text}
use Rattle.rules.specs.Adducts.{Item, item_text, item_map, adduct_text}
use Rattle.rules.specs.Annotations.{TableAnnotation, flag_text, analyte_text, annotation_text}
use Rattle.rules.specs.Preferred.{shortened_annotation, shortened, shortened_cut}
use Rattle.rules.specs.Stored.{stores, ion_fields, unit_record, lost_units, lost_name, loss_record, isotope_records, added_units, item_record, common_fields, added_fields, annotation_units, annotation_texts}
use Rattle.rules.specs.Limits.{max_losses, max_isotopes, max_items}
use Rattle.rules.specs.Editions.{Edition, ed1, ed2}
use Rattle.rules.specs.Layout.{annotation_width, loss_width, isotope_width, item_width, unit_width}
use Rattle.rules.proofs.Lengths.{unit_length, loss_length, each_isotope, item_length, section_length}
use Rattle.rules.proofs.Bounds.{Bounded}
use Rattle.rules.proofs.FitAnnotations.{InRange}
use Rattle.print_parts.specs.Changes.{changes_printed, unit_bytes, name_bytes}
use Rattle.print_parts.specs.Isotopes.{isotopes_printed}
use Rattle.print_parts.proofs.PrintedParts.{unit_rows, Printed, losses_printed, items_printed, isotopes_printed_lem, tail_printed_lem, loss_ok, item_ok, isotopes_ok, tail_ok}
use Rattle.print_ion.specs.Fronts.{front_printed}
use Rattle.print_ion.proofs.PrintedIon.{front_ok, front_printed_lem, ion_units_stored, ion_bytes_stored}
use Rattle.print_table.specs.Parts.{StoredParts}
use Rattle.print_table.specs.Annotations.{losses_in, isotopes_in, items_in, adduct_printed}
use Rattle.print_table.specs.Annotations.{units_behind_ion, text_behind_ion, units_behind_losses, text_behind_losses, annotation_printed, parts_behind}

-- ---- bytes

-- a byte tells how many there are, within the limit
row_kept : (n most : ℕ) → n ≤ most → most ≤ 255 → min (n % 256) most ≡ n
row_kept n most h g = omega arith

-- without records of a size, m of which there are
drop_row : (n : ℕ) (w k : List ℕ) {m : ℕ} (size : ℕ) → m ≡ n → length w ≡ size * n → drop (size * m) (w ++ k) ≡ k
drop_row n w k size e h = ap (λ (j : ℕ). drop j (w ++ k)) (ap (λ (j : ℕ). size * j) e ∙ sym h) ∙ drop-append_seam w k

-- two rows, and what follows
pub rows_apart : {A : Type 0} (f : A → List ℕ) (xs ys : List A) (k : List ℕ) → flat f (xs ++ ys) ++ k ≡ flat f xs ++ (flat f ys ++ k)
rows_apart f [] ys k = refl
rows_apart f (x ∷ xs) ys k =
    append_assoc (f x) (flat f (xs ++ ys)) k ∙ ap (λ (w : List ℕ). f x ++ w) (rows_apart f xs ys k) ∙ sym (append_assoc (f x) (flat f xs) (flat f ys ++ k))

unit_rows_lem : (us : List (FormulaUnit Number)) → length (unit_rows us) ≡ unit_width * length us
unit_rows_lem us = section_length unit_record unit_width us (λ u i. unit_length u)

-- ---- adducts

adduct_printed_lem : (xs : List (Item Number)) (x u t : List ℕ) → changes_printed (length xs) x u t ≡ flat item_text (map (item_map shortened) xs)
    → adduct_printed (length xs) x u t ≡ adduct_text (map (item_map shortened) xs)
unfolding adduct_printed
adduct_printed_lem [] x u t e = refl
adduct_printed_lem (y ∷ ys) x u t e =
    rw (ne_eqb (suc (length ys)) 0 (λ z. omega arith)) (ap (λ (w : List ℕ). bytes "[M" ++ (w ++ bytes "]")) e)

-- ---- the parts

-- units and names of the losses, units of the adduct items
abbrev loss_units : TableAnnotation → List (FormulaUnit Number)
loss_units a = flat (λ l. lost_units l.what) a.losses

abbrev loss_names : TableAnnotation → List ℕ
loss_names a = flat (λ l. lost_name l.what) a.losses

abbrev item_units : TableAnnotation → List (FormulaUnit Number)
item_units a = flat (λ x. added_units x.what) a.adduct

-- what an edition adds to the record of an annotation, and the records behind it
abbrev added_notes : Edition → TableAnnotation → StoredParts → List ℕ
added_notes e a q = stores (added_fields e a) ++ q.notes

-- the six parts of an annotation, each before what is left behind it
abbrev pub laid : Edition → TableAnnotation → StoredParts → StoredParts
laid e a q =
    record {
      notes = stores (common_fields a) ++ added_notes e a q;
      losses = flat (λ l. stores (loss_record l)) a.losses ++ q.losses;
      isotopes = flat (λ fs. stores fs) (isotope_records a.isotopes) ++ q.isotopes;
      items = flat (λ x. stores (item_record x)) a.adduct ++ q.items;
      units = unit_rows (annotation_units a) ++ q.units;
      text = annotation_texts a ++ q.text;
    }

-- units and text of the ion before those of the losses, and these before those of the items
abbrev units_after_ion : TableAnnotation → StoredParts → List ℕ
units_after_ion a q = unit_rows (loss_units a) ++ (unit_rows (item_units a) ++ q.units)

abbrev text_after_ion : TableAnnotation → StoredParts → List ℕ
text_after_ion a q = loss_names a ++ q.text

module _ (e : Edition) (a : TableAnnotation) (q : StoredParts) where
  units_laid : (laid e a q).units ≡ unit_rows (ion_fields a.ion).units ++ units_after_ion a q
  units_laid =
      let us = (ion_fields a.ion).units in
      let row : FormulaUnit Number → List ℕ = λ u. stores (unit_record u) in
      rows_apart row us (loss_units a ++ item_units a) q.units ∙ ap (λ (w : List ℕ). unit_rows us ++ w) (rows_apart row (loss_units a) (item_units a) q.units)

  text_laid : (laid e a q).text ≡ (ion_fields a.ion).text ++ text_after_ion a q
  text_laid = append_assoc (ion_fields a.ion).text (loss_names a) q.text

-- the record of an annotation has the width that its edition says
notes_left : (e : Edition) (a : TableAnnotation) (k : List ℕ) → drop (annotation_width e) (stores (common_fields a) ++ (stores (added_fields e a) ++ k)) ≡ k
notes_left ed1 a k = refl
notes_left ed2 a k = refl

-- an annotation within the limits
module _ (e : Edition) (a : TableAnnotation) (q : StoredParts) (b : Bounded a) (r : InRange a) where
  losses_are : losses_in (laid e a q) ≡ length a.losses
  losses_are = row_kept (length a.losses) max_losses b.losses (omega arith)

  isotopes_are : isotopes_in (laid e a q) ≡ length (isotope_records a.isotopes)
  isotopes_are = row_kept (length (isotope_records a.isotopes)) max_isotopes b.isotopes (omega arith)

  items_are : items_in (laid e a q) ≡ length a.adduct
  items_are = row_kept (length a.adduct) max_items b.adduct (omega arith)

  -- what is left behind the ion, and behind the losses
  units_after_ion_lem : units_behind_ion (laid e a q) ≡ units_after_ion a q
  units_after_ion_lem =
      let us = (ion_fields a.ion).units in
      ap₂ (λ (n : ℕ) (l : List ℕ). drop n l) (ap (λ (n : ℕ). unit_width * n) (ion_units_stored a (added_notes e a q) b.ion.few) ∙ sym (unit_rows_lem us)) (units_laid e a q)
      ∙ drop-append_seam (unit_rows us) (units_after_ion a q)

  text_after_ion_lem : text_behind_ion (laid e a q) ≡ text_after_ion a q
  text_after_ion_lem =
      ap₂ (λ (n : ℕ) (l : List ℕ). drop n l) (ion_bytes_stored a (added_notes e a q) b.ion.short) (text_laid e a q)
      ∙ drop-append_seam (ion_fields a.ion).text (text_after_ion a q)

  lost : Printed (length a.losses) (laid e a q).losses (units_after_ion a q) (text_after_ion a q) (loss_units a) (loss_names a) (flat loss_text (map (loss_map shortened) a.losses))
  lost = losses_printed a.losses q.losses (unit_rows (item_units a) ++ q.units) q.text (loss_ok a b r)

  units_after_losses : units_behind_losses (laid e a q) ≡ unit_rows (item_units a) ++ q.units
  units_after_losses =
      ap₂ (λ (n : ℕ) (l : List ℕ). drop n l)
      (ap (λ (n : ℕ). unit_bytes n (laid e a q).losses) losses_are ∙ lost.units ∙ sym (unit_rows_lem (loss_units a))) units_after_ion_lem
      ∙ drop-append_seam (unit_rows (loss_units a)) (unit_rows (item_units a) ++ q.units)

  text_after_losses : text_behind_losses (laid e a q) ≡ q.text
  text_after_losses =
      ap₂ (λ (n : ℕ) (l : List ℕ). drop n l) (ap (λ (n : ℕ). name_bytes n (laid e a q).losses) losses_are ∙ lost.names) text_after_ion_lem
      ∙ drop-append_seam (loss_names a) q.text

  added : Printed (length a.adduct) (laid e a q).items (unit_rows (item_units a) ++ q.units) q.text (item_units a) [] (flat item_text (map (item_map shortened) a.adduct))
  added = items_printed a.adduct q.items q.units q.text (item_ok a b r)

  -- the text, change by change
  front_text_lem : front_printed (laid e a q).notes (laid e a q).units (laid e a q).text
      ≡ flag_text (bytes "&") a.marked ++ (opt_text analyte_text a.analyte ++ ion_text (ion_map shortened shortened_cut a.ion))
  front_text_lem =
      ap₂ (λ (u t : List ℕ). front_printed (laid e a q).notes u t) (units_laid e a q) (text_laid e a q)
      ∙ front_printed_lem a (added_notes e a q) (units_after_ion a q) (text_after_ion a q) (front_ok a r b)

  losses_text : changes_printed (losses_in (laid e a q)) (laid e a q).losses (units_behind_ion (laid e a q)) (text_behind_ion (laid e a q))
      ≡ flat loss_text (map (loss_map shortened) a.losses)
  losses_text = (λ i. changes_printed (losses_are i) (laid e a q).losses (units_after_ion_lem i) (text_after_ion_lem i)) ∙ lost.texts

  isotopes_text_lem : isotopes_printed (isotopes_in (laid e a q)) (laid e a q).isotopes ≡ isotopes_text (isotopes_map shortened a.isotopes)
  isotopes_text_lem = ap (λ (n : ℕ). isotopes_printed n (laid e a q).isotopes) isotopes_are ∙ isotopes_printed_lem a.isotopes q.isotopes (isotopes_ok a r)

  adduct_text_lem : adduct_printed (items_in (laid e a q)) (laid e a q).items (units_behind_losses (laid e a q)) (text_behind_losses (laid e a q))
      ≡ adduct_text (map (item_map shortened) a.adduct)
  adduct_text_lem =
      (λ i. adduct_printed (items_are i) (laid e a q).items (units_after_losses i) (text_after_losses i))
      ∙ adduct_printed_lem a.adduct (laid e a q).items (unit_rows (item_units a) ++ q.units) q.text added.texts

  pub annotation_laid : annotation_printed (laid e a q) ≡ annotation_text (shortened_annotation a)
  unfolding annotation_printed
  annotation_laid =
      let f = flag_text (bytes "&") a.marked in
      let n = opt_text analyte_text a.analyte in
      let x = ion_text (ion_map shortened shortened_cut a.ion) in
      let more =
      ap₂ (λ (v w : List ℕ). v ++ w) losses_text
      (ap₂ (λ (v w : List ℕ). v ++ w) isotopes_text_lem (ap₂ (λ (v w : List ℕ). v ++ w) adduct_text_lem (tail_printed_lem a (added_notes e a q) (tail_ok a r)))) in
      ap₂ (λ (v w : List ℕ). v ++ w) front_text_lem more ∙ append_assoc f (n ++ x) _ ∙ ap (λ (w : List ℕ). f ++ w) (append_assoc n x _)

  -- what is left
  pub behind_laid : parts_behind e (laid e a q) ≡ q
  unfolding parts_behind
  behind_laid =
      let losses-left = drop_row (length a.losses) (flat (λ l. stores (loss_record l)) a.losses) q.losses loss_width losses_are (section_length loss_record loss_width a.losses (λ l i. loss_length l)) in
      let isotopes-left = drop_row (length (isotope_records a.isotopes)) (flat (λ fs. stores fs) (isotope_records a.isotopes)) q.isotopes isotope_width isotopes_are
      (section_length (λ x. x) isotope_width (isotope_records a.isotopes) (each_isotope a.isotopes)) in
      let items_left = drop_row (length a.adduct) (flat (λ x. stores (item_record x)) a.adduct) q.items item_width items_are (section_length item_record item_width a.adduct (λ x i. item_length x)) in
      let units_left : drop (unit_bytes (items_in (laid e a q)) (laid e a q).items) (units_behind_losses (laid e a q)) ≡ q.units =
      ap₂ (λ (n : ℕ) (l : List ℕ). drop n l)
      (ap (λ (n : ℕ). unit_bytes n (laid e a q).items) items_are ∙ added.units ∙ sym (unit_rows_lem (item_units a))) units_after_losses
      ∙ drop-append_seam (unit_rows (item_units a)) q.units in
      let text_left : drop (name_bytes (items_in (laid e a q)) (laid e a q).items) (text_behind_losses (laid e a q)) ≡ q.text =
      ap₂ (λ (n : ℕ) (l : List ℕ). drop n l) (ap (λ (n : ℕ). name_bytes n (laid e a q).items) items_are ∙ added.names) text_after_losses in
      λ i. record { notes = notes_left e a q.notes i; losses = losses-left i; isotopes = isotopes-left i; items = items_left i; units = units_left i; text = text_left i }
