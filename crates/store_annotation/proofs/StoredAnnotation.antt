-- What is stored of an annotation that is spelled. Assumes nothing.
use Prim.Native.Nat.{ℕ, ◌≤◌}
use mathlib.Core.Path.{◌≡◌, refl, sym, ap, ◌∙◌, subst}
use mathlib.Core.List.{List, [], ◌∷◌, ◌++◌, append-nil}
use lib.ListN.{length, drop}
use Rattle.std.specs.Prelude.{Option}
use Rattle.lang.specs.Parts.{flat}
use Rattle.lang.specs.Mark.{Kept, here, later, marks_of}
use Rattle.lang.specs.Walk.{Walked}
use Rattle.rules.specs.Numbers.{Number}
use Rattle.rules.specs.Formulas.{FormulaUnit}
use Rattle.rules.specs.Ions.{ion_text, ion_map}
use Rattle.rules.specs.Losses.{Loss}
use Rattle.rules.specs.Adducts.{Item}
use Rattle.rules.specs.Isotopes.{isotopes_map}
use Rattle.rules.specs.Annotations.{TableAnnotation, SpelledAnnotation, annotation_text}
use Rattle.rules.specs.Fields.{filled, Says, filled_cut}
use Rattle.rules.specs.Limits.{part, ion_parts, annotation_parts, annotation_marks}
use Rattle.rules.specs.Stored.{stores, unit_record, loss_record, item_record, lost_units, lost_name, added_units, ion_fields, isotope_records, annotation_record, annotation_units, annotation_texts}
use Rattle.rules.specs.Layout.{annotation_section, loss_section, isotope_section, item_section, unit_section, text_section}
use Rattle.rules.proofs.Keeps.{kept_tail, kept_part}
use Rattle.rules.proofs.Totals.{perm_length}
use Rattle.counts.specs.declared.Counts.{Counts}
use Rattle.faults.specs.declared.Refusal.{Refusal}
use Rattle.store_sections.specs.Pages.{Event, bytes_for, bytes_of}
use Rattle.store_sections.specs.Fills.{Fills}
use Rattle.store_sections.proofs.Events.{flat_append}
use Rattle.store_sections.proofs.Fills.{fills_one}
use Rattle.read_isotopes.specs.Records.{Filed, filed_isotopes}
use Rattle.sort_changes.specs.Events.{change_events}
use Rattle.read_annotation.specs.declared.Parts.{Parts}
use Rattle.read_annotation.specs.Measured.{parts_of}
use Rattle.read_annotation.proofs.SaysWhat.{table_of, says_so}
use Rattle.read_annotation.proofs.SpelledAnnotation.{EndsAnnotation, first, second, isotopes_on, adduct_on, text_is, parts_read_lem}
use Rattle.rules.specs.Editions.{Edition}
use Rattle.store_annotation.specs.Records.{record_in}
use Rattle.store_annotation.specs.Events.{ion_events, adduct_events, stored_counts, annotation_events}
use Rattle.store_annotation.proofs.Ions.{ion_units_lem, ion_name}
use Rattle.store_annotation.proofs.Records.{seen, ion_seen, record_stored}
use Rattle.store_annotation.proofs.Rests.{ion_at, losses_are, isotopes_are, adduct_is}
use Rattle.store_annotation.proofs.Sections.{share_all, events_are}

-- events that store what an annotation says
pub record StoresRead (edition : Edition) (a : SpelledAnnotation) (es : List Event) : Type 0 where
  pub table : TableAnnotation
  pub says : Says a table
  pub fills : Fills edition (table ∷ []) es

module _ (edition : Edition) (a : SpelledAnnotation) (k : List ℕ) (nth end : ℕ) (f : Option Refusal) (e : EndsAnnotation k) (i at : ℕ) (kept : Kept (annotation_marks i a at)) where
  abbrev read : Parts
  read = seen a k nth end f

  abbrev lost : List (Loss Number)
  lost = (losses_are a k e i at kept).ls

  abbrev added : List (Item Number)
  added = (adduct_is a k e i at kept).ls

  abbrev table : TableAnnotation
  table = table_of a lost added

  table_says : Says a table
  table_says =
      let l = losses_are a k e i at kept in
      let x = adduct_is a k e i at kept in
      says_so a lost added l.same l.rise x.same x.rise

  -- ---- section by section

  abbrev ion : List Event
  ion = ion_events (drop read.front.at (first a k)) read.front.ion

  abbrev losses : List Event
  losses = change_events loss_section (second a k)

  abbrev isotopes : List ℕ
  isotopes = (filed_isotopes (isotopes_on a k)).known.bytes

  abbrev adduct : List Event
  adduct = adduct_events (adduct_on a k)

  abbrev counts : Counts
  counts = stored_counts (second a k) (isotopes_on a k) (adduct_on a k) read.front.ion

  abbrev own : List ℕ
  own = record_in edition read.front read.tail counts

  -- by what each part gives to section j
  section : (j : ℕ) {x l y d : List ℕ} → bytes_of j ion ≡ x → bytes_of j losses ≡ l → bytes_for j (isotope_section, isotopes) ≡ y → bytes_of j adduct ≡ d
      → bytes_of j (annotation_events edition (first a k) read) ≡ x ++ (l ++ (y ++ (d ++ (bytes_for j (annotation_section, own) ++ []))))
  section j p q r t =
      ap (bytes_of j) (events_are edition a k nth end f e i at kept) ∙ share_all j ion losses isotopes adduct own
      ∙ (λ z. p z ++ (q z ++ (r z ++ (t z ++ (bytes_for j (annotation_section, own) ++ [])))))

  ion_other : (j : ℕ) → bytes_of j (ion_events (ion_text a.ion ++ second a k) read.front.ion) ≡ bytes_of j ion
  ion_other j = ap (λ (s : List ℕ). bytes_of j (ion_events s read.front.ion)) (sym (ion_at a k))

  annotations_are : bytes_of annotation_section (annotation_events edition (first a k) read) ≡ stores (annotation_record edition table)
  unfolding ion_events
  annotations_are =
      let l = losses_are a k e i at kept in
      let x = adduct_is a k e i at kept in
      let n = l.n ∙ perm_length l.same in
      let m = x.n ∙ perm_length x.same in
      section annotation_section refl (l.others annotation_section refl refl refl) refl (x.others annotation_section refl refl refl) ∙ append-nil own
      ∙ record_stored a k nth end f edition i at kept counts lost added n
      (ap (λ (w : Walked Filed). w.known.n) (isotopes_are a k e i at kept)) m refl refl

  losses_section : bytes_of loss_section (annotation_events edition (first a k) read) ≡ flat (λ l. stores (loss_record l)) lost
  unfolding ion_events
  losses_section =
      let l = losses_are a k e i at kept in
      let x = adduct_is a k e i at kept in
      section loss_section refl l.own refl (x.others loss_section refl refl refl) ∙ append-nil (flat (λ l. stores (loss_record l)) lost)

  isotopes_section : bytes_of isotope_section (annotation_events edition (first a k) read) ≡ flat (λ x. stores x) (isotope_records (isotopes_map filled a.isotopes))
  unfolding ion_events
  isotopes_section =
      let l = losses_are a k e i at kept in
      let x = adduct_is a k e i at kept in
      section isotope_section refl (l.others isotope_section refl refl refl) (ap (λ (w : Walked Filed). w.known.bytes) (isotopes_are a k e i at kept)) (x.others isotope_section refl refl refl)
      ∙ append-nil (flat (λ x. stores x) (isotope_records (isotopes_map filled a.isotopes)))

  items_section : bytes_of item_section (annotation_events edition (first a k) read) ≡ flat (λ x. stores (item_record x)) added
  unfolding ion_events
  items_section =
      let l = losses_are a k e i at kept in
      let x = adduct_is a k e i at kept in
      section item_section refl (l.others item_section refl refl refl) refl x.own ∙ append-nil (flat (λ x. stores (item_record x)) added)

  units_section : bytes_of unit_section (annotation_events edition (first a k) read) ≡ flat (λ u. stores (unit_record u)) (annotation_units table)
  units_section =
      let l = losses_are a k e i at kept in
      let x = adduct_is a k e i at kept in
      let p = kept_part at (annotation_parts a) (kept_tail kept) (part (ion_text a.ion) (λ at. marks_of at (ion_parts a.ion))) (later (later here)) in
      let g : FormulaUnit Number → List ℕ = λ u. stores (unit_record u) in
      let us = (ion_fields (ion_map filled filled_cut a.ion)).units in
      let vs = flat (λ l. lost_units l.what) lost in
      let ws = flat (λ x. added_units x.what) added in
      section unit_section (sym (ion_other unit_section) ∙ ion_units_lem a.ion (second a k) (ion_seen a k nth end f) p.0 p.1) l.units_are refl x.units
      ∙ ap (λ (z : List ℕ). flat g us ++ z) (ap (λ (z : List ℕ). flat g vs ++ z) (append-nil (flat g ws)) ∙ sym (flat_append g vs ws)) ∙ sym (flat_append g us (vs ++ ws))

  text_section_lem : bytes_of text_section (annotation_events edition (first a k) read) ≡ annotation_texts table
  text_section_lem =
      let l = losses_are a k e i at kept in
      let x = adduct_is a k e i at kept in
      section text_section (sym (ion_other text_section) ∙ ion_name a.ion (second a k) (ion_seen a k nth end f)) l.text refl x.text
      ∙ ap (λ (z : List ℕ). (ion_fields (ion_map filled filled_cut a.ion)).text ++ z) (append-nil (flat (λ l. lost_name l.what) lost))

  first_stored : StoresRead edition a (annotation_events edition (first a k) read)
  first_stored =
      record {
        table = table;
        says = table_says;
        fills = fills_one table annotations_are losses_section isotopes_section items_section units_section text_section_lem;
      }

-- whichever of a line it was read as, from whichever fault on: a fault is not stored
pub store_read : (edition : Edition) (a : SpelledAnnotation) (k : List ℕ) (nth end : ℕ) (f : Option Refusal) (i at : ℕ) → EndsAnnotation k → Kept (annotation_marks i a at) → length (annotation_text a ++ k) ≤ end
    → StoresRead edition a (annotation_events edition (annotation_text a ++ k) (parts_of nth end (annotation_text a ++ k) f))
store_read edition a k nth end f i at e kept h =
    let t = text_is a k in
    let g : length (first a k) ≤ end = subst (λ (s : List ℕ). length s ≤ end) t h in
    subst (λ (s : List ℕ). StoresRead edition a (annotation_events edition s (parts_of nth end s f))) (sym t)
    (subst (λ (p : Parts). StoresRead edition a (annotation_events edition (first a k) p)) (parts_read_lem a k nth end f e g) (first_stored edition a k nth end f e i at kept))
