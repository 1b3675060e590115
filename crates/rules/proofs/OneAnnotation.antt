-- What is stored of an annotation tells it, and tells where the parts of the next annotation begin. Assumes nothing.
use Prim.Native.Nat.{ℕ, ◌^◌, ◌<◌}
use mathlib.Core.Path.{◌≡◌, refl, sym, ap, ap₂, ◌∙◌}
use mathlib.Core.Bool.{Bool, true, false}
use mathlib.Core.List.{List, [], ◌∷◌, ◌++◌, map, append_assoc, head-eq_of_cons-eq, tail-eq_of_cons-eq, nil≢cons, cons≢nil}
use native.Mathlib.Omega.{arith}
use Rattle.lang.specs.Parts.{Opt, silent, written, flat}
use Rattle.lang.specs.Mark.{In, here, later}
use Rattle.rules.specs.Numbers.{Number}
use Rattle.rules.specs.Formulas.{FormulaUnit}
use Rattle.rules.specs.Decimals.{Decimal}
use Rattle.rules.specs.Annotations.{TableAnnotation, Deviation}
use Rattle.rules.specs.Fields.{Table}
use Rattle.rules.specs.Stored.{present, value_or0, ion_fields, lost_units, lost_name, loss_record, isotope_records, added_units, item_record}
use Rattle.rules.specs.Editions.{Edition}
use Rattle.rules.specs.Stored.{deviation_kind, signed, annotation_record}
use Rattle.rules.specs.Limits.{max_digits}
use Rattle.rules.proofs.Keys.{count_one}
use Rattle.rules.proofs.Lengths.{losses_of, isotopes_of, items_of, units_of, texts_of}
use Rattle.rules.proofs.Cuts.{cut, cut_map}
use Rattle.rules.proofs.OnePart.{value_at, flag_one, there_one}
use Rattle.rules.proofs.OneIsotopes.{isotopes_one}
use Rattle.rules.proofs.FitDecimals.{size_of}
use Rattle.rules.proofs.OneIon.{ion_one}
use Rattle.rules.proofs.OneLoss.{losses_one, items_one}

-- ---- analytes, deviations, confidences

analyte_one : (x y : Opt ℕ) → present x ≡ present y → value_or0 (λ n. n) x ≡ value_or0 (λ n. n) y → x ≡ y
analyte_one x y p e = there_one (λ n. n) (λ n. n) (λ m n d f. d) x y p e e

-- a number of at most 12 digits is not another one's complement
signed_one : (x y : Bool) (m n : ℕ) → m < 10 ^ max_digits → n < 10 ^ max_digits → signed x m ≡ signed y n → (x ≡ y) × (m ≡ n)
signed_one true true m n h g e = (refl, omega arith)
signed_one true false m n h g e = absurd (omega arith)
signed_one false true m n h g e = absurd (omega arith)
signed_one false false m n h g e = (refl, e)

deviation_one : (x y : Opt Deviation) → size_of x < 10 ^ max_digits → size_of y < 10 ^ max_digits → deviation_kind x ≡ deviation_kind y
    → value_or0 (λ d. d.size.places) x ≡ value_or0 (λ d. d.size.places) y
    → value_or0 (λ d. signed d.minus d.size.value) x ≡ value_or0 (λ d. signed d.minus d.size.value) y → x ≡ y
deviation_one silent silent h g k p e = refl
deviation_one silent (written d) h g k p e = absurd (omega arith)
deviation_one (written c) silent h g k p e = absurd (omega arith)
deviation_one (written c) (written d) h g k p e =
    let s = signed_one c.minus d.minus c.size.value d.size.value h g e in
    let f = flag_one c.ppm d.ppm (omega arith) in
    λ i. written (record { minus = s.0 i; size = record { value = s.1 i; places = p i }; ppm = f i })

confidence_one : (x y : Opt Decimal) → present x ≡ present y → value_or0 (λ d. d.places) x ≡ value_or0 (λ d. d.places) y
    → value_or0 (λ d. d.value) x ≡ value_or0 (λ d. d.value) y → x ≡ y
confidence_one x y p e f = there_one (λ d. d.places) (λ d. d.value) (λ c d k l i. record { value = l i; places = k i }) x y p e f

-- ---- annotations

-- the parts of two tables that stand in sections of their own are stored alike
pub record SameParts (t u : Table) : Type 0 where
  pub losses : map loss_record (losses_of t) ≡ map loss_record (losses_of u)
  pub isotopes : isotopes_of t ≡ isotopes_of u
  pub items : map item_record (items_of t) ≡ map item_record (items_of u)
  pub units : units_of t ≡ units_of u
  pub texts : texts_of t ≡ texts_of u

-- the units of the first annotation: its ion's, its losses', its items', and then those of the others
units_along : (a : TableAnnotation) (t : Table) → units_of (a ∷ t)
    ≡ (ion_fields a.ion).units ++ (flat (λ l. lost_units l.what) a.losses ++ (flat (λ x. added_units x.what) a.adduct ++ units_of t))
units_along a t =
    let u = (ion_fields a.ion).units in
    let l = flat (λ l. lost_units l.what) a.losses in
    let x = flat (λ x. added_units x.what) a.adduct in
    append_assoc u (l ++ x) (units_of t) ∙ ap (λ (r : List (FormulaUnit Number)). u ++ r) (append_assoc l x (units_of t))

-- the text of its ion, the names of its losses, and then the texts of the others
texts_along : (a : TableAnnotation) (t : Table) → texts_of (a ∷ t) ≡ (ion_fields a.ion).text ++ (flat (λ l. lost_name l.what) a.losses ++ texts_of t)
texts_along a t = append_assoc (ion_fields a.ion).text (flat (λ l. lost_name l.what) a.losses) (texts_of t)

-- the numbers below are places of fields in the record
annotation_one : (d : Edition) (a b : TableAnnotation) (t u : Table) → size_of a.deviation < 10 ^ max_digits → size_of b.deviation < 10 ^ max_digits
    → annotation_record d a ≡ annotation_record d b → SameParts (a ∷ t) (b ∷ u) → (a ≡ b) × SameParts t u
annotation_one d a b t u h g e p =
    let ls = cut_map loss_record a.losses (losses_of t) b.losses (losses_of u) (ap (value_at 17) e) p.losses in
    let is = cut (isotope_records a.isotopes) (isotope_records b.isotopes) (ap (value_at 18) e) p.isotopes in
    let xs = cut_map item_record a.adduct (items_of t) b.adduct (items_of u) (ap (value_at 19) e) p.items in
    let us = cut (ion_fields a.ion).units (ion_fields b.ion).units (ap (value_at 16) e) (sym (units_along a t) ∙ p.units ∙ units_along b u) in
    let ws = cut (ion_fields a.ion).text (ion_fields b.ion).text (ap (value_at 15) e) (sym (texts_along a t) ∙ p.texts ∙ texts_along b u) in
    let l = losses_one a.losses b.losses _ _ _ _ ls.0 us.1 ws.1 in
    let x = items_one a.adduct b.adduct _ _ xs.0 l.1 in
    let fields : ion_fields a.ion ≡ ion_fields b.ion = λ i. record {
      letter = ap (value_at 3) e i;
      position = ap (value_at 5) e i;
      end = ap (value_at 6) e i;
      text = ws.0 i;
      units = us.0 i;
    } in
    let one : a ≡ b = λ i. record {
      marked = flag_one a.marked b.marked (ap (value_at 1) e) i;
      analyte = analyte_one a.analyte b.analyte (ap (value_at 2) e) (ap (value_at 4) e) i;
      ion = ion_one a.ion b.ion (ap (value_at 0) e) fields i;
      losses = l.0 i;
      isotopes = isotopes_one a.isotopes b.isotopes is.0 i;
      adduct = x.0 i;
      charge = count_one a.charge b.charge (ap (value_at 7) e) i;
      deviation = deviation_one a.deviation b.deviation h g (ap (value_at 8) e) (ap (value_at 9) e) (ap (value_at 13) e) i;
      confidence = confidence_one a.confidence b.confidence (ap (value_at 10) e) (ap (value_at 11) e) (ap (value_at 14) e) i;
    } in
    (one, record { losses = ls.1; isotopes = is.1; items = xs.1; units = x.1; texts = l.2 })

pub table_one : (d : Edition) (t u : Table) → ((a : TableAnnotation) → In a t → size_of a.deviation < 10 ^ max_digits)
    → ((a : TableAnnotation) → In a u → size_of a.deviation < 10 ^ max_digits)
    → map (annotation_record d) t ≡ map (annotation_record d) u → SameParts t u → t ≡ u
table_one d [] [] h g e p = refl
table_one d [] (b ∷ u) h g e p = absurd (nil≢cons e)
table_one d (a ∷ t) [] h g e p = absurd (cons≢nil e)
table_one d (a ∷ t) (b ∷ u) h g e p =
    let c = annotation_one d a b t u (h a here) (g b here) (head-eq_of_cons-eq e) p in
    ap₂ ◌∷◌ c.0 (table_one d t u (λ x i. h x (later i)) (λ x i. g x (later i)) (tail-eq_of_cons-eq e) c.1)
