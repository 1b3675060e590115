-- How many bytes a stored table has: of each record, by the counts, and annotation by annotation. Assumes nothing.
use Prim.Native.Nat.{ℕ, zero, suc, ◌+◌, ◌*◌}
use mathlib.Core.Path.{◌≡◌, refl, ap, ◌∙◌}
use mathlib.Core.List.{List, [], ◌∷◌}
use native.Mathlib.Omega.{arith}
use lib.ListN.{length, length-append}
use Rattle.lang.specs.Parts.{flat, items}
use Rattle.lang.specs.Mark.{In, here, later}
use Rattle.rules.specs.Numbers.{Number}
use Rattle.rules.specs.Formulas.{FormulaUnit, plain, labelled}
use Rattle.rules.specs.Losses.{Loss}
use Rattle.rules.specs.Isotopes.{Shift, Isotopes, no_isotope, plain_isotope, average_isotope, specific_isotopes}
use Rattle.rules.specs.Adducts.{Item}
use Rattle.rules.specs.Annotations.{TableAnnotation}
use Rattle.rules.specs.Fields.{Table}
use Rattle.rules.specs.Stored.{little, Field, stores, unit_record, loss_record}
use Rattle.rules.specs.Stored.{isotope_record, specific_record, isotope_records, item_record, common_fields, annotation_record}
use Rattle.rules.specs.Stored.{annotation_units, annotation_texts, section, sections, header_size, body, header, stored}
use Rattle.rules.specs.Layout.{common_width, added_width, annotation_width, loss_width, isotope_width, item_width, unit_width}
use Rattle.rules.specs.Editions.{Edition, ed1, ed2}
use Rattle.rules.proofs.Totals.{total, length_flat, length_flat_each, in_none, in_map, in_flat}

-- ---- records

pub little_length : (n v : ℕ) → length (little n v) ≡ n
little_length zero v = refl
little_length (suc n) v = ap suc (little_length n _)

pub stores_length : (fs : List Field) → length (stores fs) ≡ total (λ f. f.width) fs
stores_length [] = refl
stores_length (f ∷ fs) =
    omega (arith, length-append (little f.width f.value) (stores fs), little_length f.width f.value, stores_length fs)

pub unit_length : (u : FormulaUnit Number) → length (stores (unit_record u)) ≡ unit_width
unit_length (plain s c) = refl
unit_length (labelled a s c) = refl

pub loss_length : (l : Loss Number) → length (stores (loss_record l)) ≡ loss_width
loss_length l = refl

pub isotope_length : (x : Shift Number) (kind nucleons element : ℕ) → length (stores (isotope_record x kind nucleons element)) ≡ isotope_width
isotope_length x kind nucleons element = refl

pub each_isotope : (x : Isotopes Number) (fs : List Field) → In fs (isotope_records x) → length (stores fs) ≡ isotope_width
each_isotope no_isotope fs i = absurd (in_none i)
each_isotope (plain_isotope x) fs here = refl
each_isotope (plain_isotope x) fs (later i) = absurd (in_none i)
each_isotope (average_isotope x) fs here = refl
each_isotope (average_isotope x) fs (later i) = absurd (in_none i)
each_isotope (specific_isotopes xs) fs i = in_map specific_record (λ fs. length (stores fs) ≡ isotope_width) (items xs) (λ x j. refl) fs i

pub item_length : (x : Item Number) → length (stores (item_record x)) ≡ item_width
item_length x = refl

pub common_length : (a : TableAnnotation) → length (stores (common_fields a)) ≡ common_width
common_length a = refl

pub annotation_length : (e : Edition) (a : TableAnnotation) → length (stores (annotation_record e a)) ≡ annotation_width e
annotation_length ed1 a = refl
annotation_length ed2 a = refl

pub header_length : (e : Edition) (t : Table) → length (stores (header e t)) ≡ header_size
header_length e t = refl

-- ---- the whole, by its counts

pub section_length : {A : Type 0} (f : A → List Field) (n : ℕ) (xs : List A) → ((x : A) → In x xs → length (stores (f x)) ≡ n)
    → length (section f xs).bytes ≡ n * length xs
section_length f n xs h = length_flat_each (λ x. stores (f x)) n xs h

-- the members of the sections
abbrev pub losses_of : Table → List (Loss Number)
losses_of t = flat (λ a. a.losses) t

abbrev pub isotopes_of : Table → List (List Field)
isotopes_of t = flat (λ a. isotope_records a.isotopes) t

abbrev pub items_of : Table → List (Item Number)
items_of t = flat (λ a. a.adduct) t

abbrev pub units_of : Table → List (FormulaUnit Number)
units_of t = flat annotation_units t

abbrev pub texts_of : Table → List ℕ
texts_of t = flat annotation_texts t

-- what an edition adds to the annotations of a table: a number by itself, so that sums stay linear
unfoldable pub added_to : Edition → Table → ℕ
added_to e t = added_width e * length t

pub added_none : (e : Edition) → added_to e [] ≡ 0
unfolding added_to
added_none ed1 = refl
added_none ed2 = refl

pub added_next : (e : Edition) (a : TableAnnotation) (t : Table) → added_to e (a ∷ t) ≡ added_width e + added_to e t
unfolding added_to
added_next ed1 a t = omega arith
added_next ed2 a t = omega arith

pub added_is : (e : Edition) (t : Table) → added_to e t ≡ added_width e * length t
unfolding added_to
added_is e t = refl

-- it goes by how many there are
pub added_same : (e : Edition) (t u : Table) → length t ≡ length u → added_to e t ≡ added_to e u
unfolding added_to
added_same e t u h = ap (λ (n : ℕ). added_width e * n) h

pub annotations_length : (e : Edition) (t : Table) → length (section (annotation_record e) t).bytes ≡ common_width * length t + added_to e t
unfolding added_to
annotations_length ed1 t = section_length (annotation_record ed1) (annotation_width ed1) t (λ a i. annotation_length ed1 a) ∙ omega arith
annotations_length ed2 t = section_length (annotation_record ed2) (annotation_width ed2) t (λ a i. annotation_length ed2 a) ∙ omega arith

pub losses_length : (t : Table) → length (section loss_record (losses_of t)).bytes ≡ loss_width * length (losses_of t)
losses_length t = section_length loss_record loss_width (losses_of t) (λ l i. loss_length l)

pub isotopes_length : (t : Table) → length (section (λ x. x) (isotopes_of t)).bytes ≡ isotope_width * length (isotopes_of t)
isotopes_length t =
    let each = in_flat (λ a. isotope_records a.isotopes) (λ fs. length (stores fs) ≡ isotope_width) t (λ a i. each_isotope a.isotopes) in
    section_length (λ x. x) isotope_width (isotopes_of t) each

pub items_length : (t : Table) → length (section item_record (items_of t)).bytes ≡ item_width * length (items_of t)
items_length t = section_length item_record item_width (items_of t) (λ x i. item_length x)

pub units_length : (t : Table) → length (section unit_record (units_of t)).bytes ≡ unit_width * length (units_of t)
units_length t = section_length unit_record unit_width (units_of t) (λ u i. unit_length u)

-- the bytes after the header
abbrev pub body_size : Edition → Table → ℕ
body_size e t =
    common_width * length t + added_to e t
    + (loss_width * length (losses_of t) + (isotope_width * length (isotopes_of t)
    + (item_width * length (items_of t) + (unit_width * length (units_of t) + length (texts_of t)))))

pub body_length : (e : Edition) (t : Table) → length (body e t) ≡ body_size e t
body_length e t =
    omega (arith, length_flat (λ s. s.bytes) (sections e t), annotations_length e t, losses_length t, isotopes_length t, items_length t, units_length t)

pub stored_length : (e : Edition) (t : Table) → length (stored e t) ≡ header_size + body_size e t
stored_length e t = omega (arith, body_length e t)

-- ---- the whole, annotation by annotation

-- the bytes of the table that are an annotation's
abbrev pub weight : Edition → TableAnnotation → ℕ
weight e a =
    common_width + added_width e + (loss_width * length a.losses + (isotope_width * length (isotope_records a.isotopes)
    + (item_width * length a.adduct + (unit_width * length (annotation_units a) + length (annotation_texts a)))))

pub body_weight : (e : Edition) (t : Table) → body_size e t ≡ total (weight e) t
body_weight e [] = omega (arith, added_none e)
body_weight e (a ∷ t) =
    omega (
      arith,
      body_weight e t,
      added_next e a t,
      length-append a.losses (losses_of t),
      length-append (isotope_records a.isotopes) (isotopes_of t),
      length-append a.adduct (items_of t),
      length-append (annotation_units a) (units_of t),
      length-append (annotation_texts a) (texts_of t),
    )

pub stored_weight : (e : Edition) (t : Table) → length (stored e t) ≡ header_size + total (weight e) t
stored_weight e t = stored_length e t ∙ ap (λ (n : ℕ). header_size + n) (body_weight e t)
