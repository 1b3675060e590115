-- The limits and house rules keep each number of a sound table within its field of the stored table. Assumes nothing.
use Prim.Native.Nat.{ℕ, ◌≤◌, ◌+◌}
use mathlib.Core.Path.{◌≡◌, refl, subst}
use mathlib.Core.Bool.{Bool, true, false, not, ◌&&◌}
use mathlib.Core.List.{List, [], ◌∷◌}
use native.Mathlib.Omega.{arith}
use lib.Dec.{T, leb}
use lib.ListN.{length}
use Rattle.lang.specs.Parts.{Opt, silent, written}
use Rattle.lang.specs.Mark.{In, here, later, Kept, marks_of}
use Rattle.lang.proofs.Deriv.{and_0, and_1}
use Rattle.rules.specs.Bytes.{bytes}
use Rattle.rules.specs.Numbers.{From, Number}
use Rattle.rules.specs.Ions.{ion_text, TableIon, series, internal, immonium, precursor, reference, named, composed, smiles, unknown}
use Rattle.rules.specs.Losses.{Loss, loss_text, loss_map}
use Rattle.rules.specs.Isotopes.{Isotopes, isotopes_text}
use Rattle.rules.specs.Adducts.{Item, item_text, adduct_text, item_map}
use Rattle.rules.specs.Annotations.{TableAnnotation, SpelledAnnotation, annotation_text}
use Rattle.rules.specs.Lines.{Spelling}
use Rattle.rules.specs.Fields.{filled_annotation, Table, filled, SameFields}
use Rattle.rules.specs.Limits.{max_position, max_charge, bare, part, opt_part, row_part, ion_parts}
use Rattle.rules.specs.Limits.{loss_marks, isotopes_marks, item_marks, adduct_marks, analyte_part, charge_part, deviation_part, confidence_part, annotation_parts, annotation_marks}
use Rattle.rules.specs.House.{is_empty, ion_rule, deviation_rule, share, one, common_rules, long_enough, annotation_rules, first_failing}
use Rattle.rules.specs.Preferred.{count_or1}
use Rattle.rules.specs.Stored.{Field, present, value_or0, isotope_records, ion_fields, residue_count, common_fields, added_fields, annotation_record}
use Rattle.rules.specs.Answers.{Sound}
use Rattle.rules.specs.Editions.{Edition, ed1, ed2}
use Rattle.rules.specs.Layout.{isotope_widths, common_widths, added_widths, annotation_widths}
use Rattle.rules.proofs.Residues.{residues_few}
use Rattle.rules.proofs.OneAnswer.{written_not_silent}
use Rattle.rules.proofs.Totals.{in_map, perm_in}
use Rattle.rules.proofs.Keeps.{kept_tail, kept_part, not_past, row_each}
use Rattle.rules.proofs.Bounds.{Bounded, each_in, line_each}
use Rattle.rules.proofs.OneRecord.{Fits, fits_both}
use Rattle.rules.proofs.FitDecimals.{flag_small, DeviationFits, deviation_fits, ConfidenceFits, confidence_fits}
use Rattle.rules.proofs.FitParts.{LossFits, loss_fits, isotopes_fit, ItemFits, item_fits}
use Rattle.rules.proofs.FitIons.{IonFits, ion_fits}

-- ---- an annotation

analyte_within : (x : Opt ℕ) (at : ℕ) → Kept ((opt_part analyte_part x).marks at) → value_or0 (λ n. n) x ≤ max_position
analyte_within silent at k = omega arith
analyte_within (written n) at k = not_past max_position n (λ b. k _ here b)

charge_within : (x : Opt (From 2)) (at : ℕ) → Kept ((opt_part charge_part x).marks at) → count_or1 x ≤ max_charge
charge_within silent at k = omega arith
charge_within (written n) at k = not_past max_charge n.value (λ b. k _ here b)

pub record InRange (a : TableAnnotation) : Type 0 where
  pub analyte : value_or0 (λ n. n) a.analyte ≤ max_position
  pub ion : IonFits a.ion
  pub loss : (l : Loss Number) → In l a.losses → LossFits l
  pub isotope : (fs : List Field) → In fs (isotope_records a.isotopes) → Fits isotope_widths fs
  pub item : (x : Item Number) → In x a.adduct → ItemFits x
  pub charge : count_or1 a.charge ≤ max_charge
  pub deviation : DeviationFits a.deviation
  pub confidence : ConfidenceFits a.confidence

kept_in_range : (i : ℕ) (a : SpelledAnnotation) (at : ℕ) → Kept (annotation_marks i a at) → T (common_rules a) → InRange (filled_annotation a)
kept_in_range i a at k t =
    let h : Kept (marks_of at (annotation_parts a)) = kept_tail k in
    let keep = kept_part at (annotation_parts a) h in
    let an = keep (opt_part analyte_part a.analyte) (later here) in
    let ion = keep (part (ion_text a.ion) (λ at. marks_of at (ion_parts a.ion))) (later (later here)) in
    let ls = keep (row_part loss_text loss_marks a.losses) (later (later (later here))) in
    let is = keep (part (isotopes_text a.isotopes) (isotopes_marks a.isotopes)) (later (later (later (later here)))) in
    let ad = keep (part (adduct_text a.adduct) (adduct_marks a.adduct)) (later (later (later (later (later here))))) in
    let items = row_part item_text item_marks a.adduct in
    let row = kept_part ad.0 (bare (bytes "[M") ∷ items ∷ []) ad.1 items (later here) in
    let ch = keep (opt_part charge_part a.charge) (later (later (later (later (later (later here)))))) in
    let de = keep (opt_part deviation_part a.deviation) (later (later (later (later (later (later (later here))))))) in
    let co = keep (opt_part confidence_part a.confidence) (later (later (later (later (later (later (later (later here)))))))) in
    let ionRules = ion_rule a.ion (not (is_empty a.adduct)) in
    let bounded = leb (share a) one in
    let rules = and_1 ionRules (deviation_rule a.deviation && bounded) t in
    record {
      analyte = analyte_within a.analyte an.0 an.1;
      ion = ion_fits a.ion ion.0 ion.1;
      loss = in_map (loss_map filled) LossFits a.losses (λ l e.
          let c = row_each loss_text loss_marks 0 a.losses ls.0 ls.1 l e in
          loss_fits c.0 l c.1 c.2);
      isotope = isotopes_fit a.isotopes is.0 is.1;
      item = in_map (item_map filled) ItemFits a.adduct (λ x e.
          let c = row_each item_text item_marks 0 a.adduct row.0 row.1 x e in
          item_fits c.0 x c.1 c.2);
      charge = charge_within a.charge ch.0 ch.1;
      deviation = deviation_fits a.deviation de.0 de.1 (and_0 (deviation_rule a.deviation) bounded rules);
      confidence = confidence_fits a.confidence co.0 co.1 (and_1 (deviation_rule a.deviation) bounded rules);
    }

-- the ranges do not depend on the order of losses and items
same_in_range : {a b : TableAnnotation} → SameFields a b → InRange a → InRange b
same_in_range e r =
    record {
      analyte = subst (λ (x : Opt ℕ). value_or0 (λ n. n) x ≤ max_position) e.analyte r.analyte;
      ion = subst IonFits e.ion r.ion;
      loss = λ l i. r.loss l (perm_in e.losses l i);
      isotope = subst (λ (x : Isotopes Number). (fs : List Field) → In fs (isotope_records x) → Fits isotope_widths fs) e.isotopes r.isotope;
      item = λ x i. r.item x (perm_in e.adduct x i);
      charge = subst (λ (x : Opt (From 2)). count_or1 x ≤ max_charge) e.charge r.charge;
      deviation = subst DeviationFits e.deviation r.deviation;
      confidence = subst ConfidenceFits e.confidence r.confidence;
    }

-- ---- tables

-- a test that did not end the search for a place passed, and the search went on
pub passed : (x : Bool) (more : Opt ℕ) (at : ℕ) → ◌≡◌ {A = Opt ℕ} (elim x [ true ↦ more | false ↦ written at ]) silent → T x × (more ≡ silent)
passed true more at e = (tt, e)
passed false more at e = absurd (written_not_silent (written at) refl e)

-- where no annotation of a line is the first that fails a test, each passes it
pub passes_each : (test : SpelledAnnotation → Bool) (at : ℕ) (s : Spelling) → first_failing test at s ≡ silent → (a : SpelledAnnotation) → In a s → T (test a)
passes_each test at [] e b i = elim i [ ]
passes_each test at (a ∷ s) e b here = (passed (test a) (first_failing test _ s) at e).0
passes_each test at (a ∷ s) e b (later i) = passes_each test (at + length (annotation_text a) + 1) s (passed (test a) (first_failing test _ s) at e).1 b i

pub table_in_range : {e : Edition} (t : Table) → Sound e t → (a : TableAnnotation) → In a t → InRange a
table_in_range {e} t s a i =
    let c = each_in s.says a i in
    let k = line_each s.spelling s.limits c.0 c.1 in
    same_in_range c.2.fields (kept_in_range k.0 c.0 k.1 k.2 (and_0 (common_rules c.0) (long_enough e c.0.ion) (passes_each (annotation_rules e) 0 s.spelling s.rules c.0 c.1)))

-- ---- the record of an annotation

present_small : {A : Type 0} (x : Opt A) → present x ≤ 1
present_small silent = omega arith
present_small (written x) = omega arith

common_fits : (a : TableAnnotation) → Bounded a → InRange a → Fits common_widths (common_fields a)
common_fits a b r =
    omega (
      arith,
      flag_small a.marked,
      present_small a.analyte,
      present_small a.confidence,
      r.analyte,
      r.ion.small.kind,
      r.ion.small.letter,
      r.ion.small.position,
      r.ion.small.end,
      r.charge,
      r.deviation.kind,
      r.deviation.places,
      r.deviation.value,
      r.confidence.places,
      r.confidence.value,
      b.ion.short,
      b.ion.few,
      b.losses,
      b.isotopes,
      b.adduct,
    )

-- no more residues than bytes of text
count_few : (x : TableIon) → residue_count x ≤ length (ion_fields x).text
count_few (series s n silent) = omega arith
count_few (series s n (written t)) = residues_few t.bytes
count_few (internal c m n silent) = omega arith
count_few (internal c m n (written t)) = residues_few t.bytes
count_few (immonium a m) = omega arith
count_few precursor = omega arith
count_few (reference n) = omega arith
count_few (named t) = omega arith
count_few (composed f) = omega arith
count_few (smiles t) = omega arith
count_few (unknown n) = omega arith

added_fits : (e : Edition) (a : TableAnnotation) → Bounded a → Fits (added_widths e) (added_fields e a)
added_fits ed1 a b = tt
added_fits ed2 a b = (refl, omega (arith, count_few a.ion, b.ion.short), tt)

pub annotation_fits : (e : Edition) (a : TableAnnotation) → Bounded a → InRange a → Fits (annotation_widths e) (annotation_record e a)
annotation_fits e a b r = fits_both common_widths (added_widths e) (common_fields a) (added_fields e a) (common_fits a b r) (added_fits e a b)
