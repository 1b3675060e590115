-- What is counted of a spelled line is what its table has. Assumes nothing.
use Prim.Native.Nat.{ℕ, ◌+◌}
use mathlib.Core.Path.{◌≡◌, refl, ap, ap₂, ◌∙◌}
use mathlib.Core.List.{List, ◌∷◌, ◌++◌}
use native.Mathlib.Omega.{arith}
use lib.ListN.{length, length-append}
use Rattle.lang.specs.Parts.{flat}
use Rattle.lang.specs.Order.{Each, none, next}
use Rattle.rules.specs.Ions.{TableIon}
use Rattle.rules.specs.Annotations.{TableAnnotation, SpelledAnnotation}
use Rattle.rules.specs.Lines.{Spelling}
use Rattle.rules.specs.Fields.{filled_annotation, Table, Says}
use Rattle.rules.specs.Stored.{ion_fields, lost_units, lost_name, added_units, isotope_records, annotation_units, annotation_texts, stored}
use Rattle.rules.specs.Answers.{SoundIn}
use Rattle.rules.specs.Editions.{Edition, ed1, ed2, current, LineEdition}
use Rattle.rules.proofs.Totals.{perm_length, perm_flat}
use Rattle.rules.proofs.Lengths.{added_is, stored_length}
use Rattle.rules.proofs.Sizes.{sizes_fit}
use Rattle.counts.specs.declared.Counts.{Counts}
use Rattle.counts.specs.Sums.{sum, no_counts, plus}
use Rattle.counts.proofs.Sums.{Fits, plus_capped, fits_exact}
use Rattle.counts.proofs.Annotations.{annotation_counts}
use Rattle.store_sections.specs.Headers.{end_at, counts_of}
use Rattle.measure_line.proofs.Through.{counts_in, spelled_counts}

-- ---- an annotation has as many of each as the table has of it

module _ {a : SpelledAnnotation} {b : TableAnnotation} (s : Says a b) where
  -- units: the ion's, those of the losses, those of the adduct items
  units_split : (a : TableAnnotation)
      → length (annotation_units a) ≡ length (ion_fields a.ion).units + (length (flat (λ l. lost_units l.what) a.losses) + length (flat (λ x. added_units x.what) a.adduct))
  units_split a =
      length-append (ion_fields a.ion).units (flat (λ l. lost_units l.what) a.losses ++ flat (λ x. added_units x.what) a.adduct)
      ∙ ap (λ (n : ℕ). length (ion_fields a.ion).units + n) (length-append (flat (λ l. lost_units l.what) a.losses) (flat (λ x. added_units x.what) a.adduct))

  units_same : (counts_in a).units ≡ length (annotation_units b)
  units_same =
      omega (
        arith,
        units_split (filled_annotation a),
        units_split b,
        ap (λ (x : TableIon). length (ion_fields x).units) s.fields.ion,
        perm_flat (λ l. lost_units l.what) s.fields.losses,
        perm_flat (λ x. added_units x.what) s.fields.adduct,
      )

  text_split : (a : TableAnnotation) → length (annotation_texts a) ≡ length (ion_fields a.ion).text + length (flat (λ l. lost_name l.what) a.losses)
  text_split a = length-append (ion_fields a.ion).text (flat (λ l. lost_name l.what) a.losses)

  text_same : (counts_in a).text ≡ length (annotation_texts b)
  text_same =
      omega (
        arith,
        text_split (filled_annotation a),
        text_split b,
        ap (λ (x : TableIon). length (ion_fields x).text) s.fields.ion,
        perm_flat (λ l. lost_name l.what) s.fields.losses,
      )

  counts_same : counts_in a ≡ annotation_counts b
  counts_same =
      λ i. record {
        annotations = 1;
        losses = perm_length s.fields.losses i;
        isotopes = length (isotope_records (s.fields.isotopes i));
        items = perm_length s.fields.adduct i;
        units = units_same i;
        text = text_same i;
      }

-- ---- and so have all of them

appended : {A : Type 0} (xs ys : List A) → sum (length xs) (length ys) ≡ sum 0 (length (xs ++ ys))
appended xs ys = omega (arith, length-append xs ys)

one_more : (b : TableAnnotation) (t : Table) → plus (annotation_counts b) (counts_of t) ≡ plus no_counts (counts_of (b ∷ t))
one_more b t =
    let n : sum 1 (length t) ≡ sum 0 (length (b ∷ t)) = omega arith in
    λ i. record {
      annotations = n i;
      losses = appended b.losses (flat (λ a. a.losses) t) i;
      isotopes = appended (isotope_records b.isotopes) (flat (λ a. isotope_records a.isotopes) t) i;
      items = appended b.adduct (flat (λ a. a.adduct) t) i;
      units = appended (annotation_units b) (flat annotation_units t) i;
      text = appended (annotation_texts b) (flat annotation_texts t) i;
    }

all_same : {s : Spelling} {t : Table} → Each Says s t → spelled_counts s ≡ plus no_counts (counts_of t)
all_same none = refl
all_same (next {b = b} {m = t} x e) = ap₂ plus (counts_same x) (all_same e) ∙ plus_capped (annotation_counts b) (counts_of t) ∙ one_more b t

-- ---- for callers

-- a sound table has no more of anything than fits
counts_fit : {l : LineEdition} {e : Edition} (t : Table) → SoundIn l e t → Fits (counts_of t)
counts_fit t w =
    let l = stored_length current t in
    let m = sizes_fit current t w in
    record { annotations = omega arith; losses = omega arith; isotopes = omega arith; items = omega arith; units = omega arith; text = omega arith }

pub counts_are : {s : Spelling} {t : Table} {n : Counts} → {l : LineEdition} {e : Edition} → Each Says s t → SoundIn l e t → n ≡ plus no_counts (spelled_counts s) → n ≡ counts_of t
counts_are {t = t} e w c = c ∙ ap (plus no_counts) (all_same e) ∙ plus_capped no_counts (counts_of t) ∙ fits_exact (counts_fit t w)

-- the size that is told is that of the table
pub end_is : (edition : Edition) (t : Table) {l : LineEdition} {e : Edition} → SoundIn l e t → end_at edition (counts_of t) ≡ length (stored edition t)
end_is ed1 t w = omega (arith, stored_length ed1 t, sizes_fit ed1 t w, added_is ed1 t)
end_is ed2 t w = omega (arith, stored_length ed2 t, sizes_fit ed2 t w, added_is ed2 t)
