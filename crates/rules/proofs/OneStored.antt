-- Document 01, "The stored table": no two sound tables have the same bytes. Assumes nothing.
use Prim.Native.Nat.{ℕ, ◌+◌, ◌≤◌}
use mathlib.Core.Path.{◌≡◌, refl, ap}
use mathlib.Core.List.{List, [], ◌∷◌, ◌++◌}
use native.Mathlib.Omega.{arith}
use lib.ListN.{length, get_or}
use Rattle.lang.specs.Parts.{flat}
use Rattle.lang.specs.Mark.{In, here, later}
use Rattle.rules.specs.Numbers.{Number}
use Rattle.rules.specs.Formulas.{FormulaUnit}
use Rattle.rules.specs.Losses.{Loss}
use Rattle.rules.specs.Adducts.{Item}
use Rattle.rules.specs.Annotations.{TableAnnotation}
use Rattle.rules.specs.Fields.{Table}
use Rattle.rules.specs.Stored.{Field, stores, ion_fields, lost_units, loss_record, isotope_records, added_units, item_record, unit_record}
use Rattle.rules.specs.Stored.{annotation_record, annotation_units, Section, section, sections, header_size, counts, body, header, stored}
use Rattle.rules.specs.Answers.{Sound}
use Rattle.rules.specs.Layout.{unit_widths, loss_widths, isotope_widths, item_widths, annotation_widths}
use Rattle.rules.specs.Largest.{max_any_table}
use Rattle.rules.specs.Editions.{Edition, ed1, ed2}
use Rattle.rules.proofs.Totals.{in_append, in_flat}
use Rattle.rules.proofs.Bounds.{table_bounded}
use Rattle.rules.proofs.Lengths.{losses_of, isotopes_of, items_of, units_of, texts_of, annotations_length, added_same, losses_length, isotopes_length, items_length, units_length}
use Rattle.rules.proofs.Sizes.{header_fits}
use Rattle.rules.proofs.Cuts.{cut, map_one}
use Rattle.rules.proofs.OneRecord.{Fits, stores_one, records_one}
use Rattle.rules.proofs.OnePart.{value_at, unit_one}
use Rattle.rules.proofs.OneAnnotation.{table_one}
use Rattle.rules.proofs.FitParts.{UnitFits}
use Rattle.rules.proofs.FitAnnotations.{table_in_range, annotation_fits}

-- ---- the header

-- a width for each count and each offset
abbrev count_widths : List Section → List ℕ
count_widths [] = []
count_widths (s ∷ ss) = 2 ∷ 2 ∷ count_widths ss

counts_fit : (at : ℕ) (ss : List Section) → ((f : Field) → In f (counts at ss) → f.value ≤ max_any_table) → Fits (count_widths ss) (counts at ss)
counts_fit at [] h = tt
counts_fit at (s ∷ ss) h =
    let rest = counts_fit (at + length s.bytes) ss (λ f i. h f (later (later i))) in
    (refl, omega (arith, h _ here), (refl, omega (arith, h _ (later here)), rest))

header_one : (d : Edition) (t u : Table) → Sound d t → Sound d u → stores (header d t) ≡ stores (header d u) → header d t ≡ header d u
header_one d t u s r e = stores_one (2 ∷ 2 ∷ count_widths (sections d t)) (header d t) (header d u) (fit t s) (fit u r) e
  where
    fit : (t : Table) → Sound d t → Fits (2 ∷ 2 ∷ count_widths (sections d t)) (header d t)
    fit t s =
        let h = header_fits d t s in
        (refl, omega (arith, h _ here), (refl, omega (arith, h _ (later here)), counts_fit header_size (sections d t) (λ f i. h f (later (later i)))))

-- ---- the sections

-- the bytes of the sections of two tables are equal
record SameBytes (d : Edition) (t u : Table) : Type 0 where
  annotations : (section (annotation_record d) t).bytes ≡ (section (annotation_record d) u).bytes
  losses : (section loss_record (losses_of t)).bytes ≡ (section loss_record (losses_of u)).bytes
  isotopes : (section (λ x. x) (isotopes_of t)).bytes ≡ (section (λ x. x) (isotopes_of u)).bytes
  items : (section item_record (items_of t)).bytes ≡ (section item_record (items_of u)).bytes
  units : (section unit_record (units_of t)).bytes ≡ (section unit_record (units_of u)).bytes
  texts : texts_of t ≡ texts_of u

-- the header tells how long each section is, and so where the next begins
body_one : (d : Edition) (t u : Table) → header d t ≡ header d u → body d t ≡ body d u → SameBytes d t u
body_one d t u h e =
    let n0 : length t ≡ length u = ap (value_at 2) h in
    let n1 : length (losses_of t) ≡ length (losses_of u) = ap (value_at 4) h in
    let n2 : length (isotopes_of t) ≡ length (isotopes_of u) = ap (value_at 6) h in
    let n3 : length (items_of t) ≡ length (items_of u) = ap (value_at 8) h in
    let n4 : length (units_of t) ≡ length (units_of u) = ap (value_at 10) h in
    let c0 = cut (section (annotation_record d) t).bytes (section (annotation_record d) u).bytes (omega (arith, annotations_length d t, annotations_length d u, added_same d t u n0)) e in
    let c1 = cut (section loss_record (losses_of t)).bytes (section loss_record (losses_of u)).bytes (omega (arith, losses_length t, losses_length u)) c0.1 in
    let c2 = cut (section (λ x. x) (isotopes_of t)).bytes (section (λ x. x) (isotopes_of u)).bytes (omega (arith, isotopes_length t, isotopes_length u)) c1.1 in
    let c3 = cut (section item_record (items_of t)).bytes (section item_record (items_of u)).bytes (omega (arith, items_length t, items_length u)) c2.1 in
    let c4 = cut (section unit_record (units_of t)).bytes (section unit_record (units_of u)).bytes (omega (arith, units_length t, units_length u)) c3.1 in
    let c5 = cut (texts_of t) (texts_of u) (ap (value_at 12) h) c4.1 in
    record { annotations = c0.0; losses = c1.0; isotopes = c2.0; items = c3.0; units = c4.0; texts = c5.0 }

-- ---- the records of a sound table fit

module _ {e : Edition} (t : Table) (s : Sound e t) where
  annotations_fit : (d : Edition) (a : TableAnnotation) → In a t → Fits (annotation_widths d) (annotation_record d a)
  annotations_fit d a i = annotation_fits d a (table_bounded t s a i) (table_in_range t s a i)

  losses_fit : (l : Loss Number) → In l (losses_of t) → Fits loss_widths (loss_record l)
  losses_fit = in_flat (λ a. a.losses) (λ l. Fits loss_widths (loss_record l)) t (λ a i l j. ((table_in_range t s a i).loss l j).self)

  isotopes_fit : (fs : List Field) → In fs (isotopes_of t) → Fits isotope_widths fs
  isotopes_fit = in_flat (λ a. isotope_records a.isotopes) (Fits isotope_widths) t (λ a i. (table_in_range t s a i).isotope)

  items_fit : (x : Item Number) → In x (items_of t) → Fits item_widths (item_record x)
  items_fit = in_flat (λ a. a.adduct) (λ x. Fits item_widths (item_record x)) t (λ a i x j. ((table_in_range t s a i).item x j).self)

  units_fit : (u : FormulaUnit Number) → In u (units_of t) → UnitFits u
  units_fit = in_flat annotation_units UnitFits t (λ a i.
      let r = table_in_range t s a i in
      let ls = flat (λ l. lost_units l.what) a.losses in
      let xs = flat (λ x. added_units x.what) a.adduct in
      in_append UnitFits (ion_fields a.ion).units (ls ++ xs) r.ion.units
      (in_append UnitFits ls xs (in_flat (λ l. lost_units l.what) UnitFits a.losses (λ l j. (r.loss l j).units))
      (in_flat (λ x. added_units x.what) UnitFits a.adduct (λ x j. (r.item x j).units))))

-- ---- the whole

pub one_stored : (d : Edition) (t u : Table) → Sound d t → Sound d u → stored d t ≡ stored d u → t ≡ u
one_stored d t u s r e =
    let c = cut (stores (header d t)) (stores (header d u)) refl e in
    let h = header_one d t u s r c.0 in
    let b = body_one d t u h c.1 in
    let ann = records_one (annotation_record d) (annotation_widths d) t u (annotations_fit t s d) (annotations_fit u r d) (ap (value_at 2) h) b.annotations in
    let ls = records_one loss_record loss_widths (losses_of t) (losses_of u) (losses_fit t s) (losses_fit u r) (ap (value_at 4) h) b.losses in
    let is = records_one (λ x. x) isotope_widths (isotopes_of t) (isotopes_of u) (isotopes_fit t s) (isotopes_fit u r) (ap (value_at 6) h) b.isotopes in
    let xs = records_one item_record item_widths (items_of t) (items_of u) (items_fit t s) (items_fit u r) (ap (value_at 8) h) b.items in
    let us = records_one unit_record unit_widths (units_of t) (units_of u) (units_fit t s) (units_fit u r) (ap (value_at 10) h) b.units in
    table_one d t u (λ a i. (table_in_range t s a i).deviation.size) (λ a i. (table_in_range u r a i).deviation.size) ann
    (record {
      losses = ls;
      isotopes = map_one (λ x. x) (λ x y e. e) (isotopes_of t) (isotopes_of u) is;
      items = xs;
      units = map_one unit_record unit_one (units_of t) (units_of u) us;
      texts = b.texts;
    })

-- bytes are of one edition
pub editions_apart : (t u : Table) → stored ed1 t ≡ stored ed2 u → ⊥
editions_apart t u e = let z : ◌≡◌ {A = ℕ} 1 2 = ap (λ (w : List ℕ). get_or w 0 0) e in omega arith
