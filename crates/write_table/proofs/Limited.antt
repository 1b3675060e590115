-- Where no limit of a line is broken, each annotation that it means is within. Assumes nothing.
use Prim.Native.Nat.{ℕ, ◌≤◌, ◌<◌}
use mathlib.Core.Bool.{Bool}
use mathlib.Core.List.{List, [], ◌∷◌, map}
use native.Mathlib.Omega.{arith}
use lib.ListN.{length, length-map}
use Rattle.lang.specs.Parts.{Opt, silent, written, opt_map, items, Such, word_of}
use Rattle.lang.specs.Mark.{Mark, here, later, Kept, marks_of}
use Rattle.rules.specs.Bytes.{bytes}
use Rattle.rules.specs.Numbers.{From}
use Rattle.rules.specs.Texts.{braced_text, bracket_text}
use Rattle.rules.specs.Formulas.{Written, FormulaUnit, plain, labelled, unit_text, unit_map, Formula, formula_map}
use Rattle.rules.specs.Ions.{series, internal, immonium, precursor, reference, named, composed, smiles, unknown, ion_text, ion_map, SpelledIon}
use Rattle.rules.specs.Losses.{sign_text, Lost, lost_formula, lost_name_lem, lost_map, Loss, loss_text, loss_map}
use Rattle.rules.specs.Isotopes.{Shift, Specific, Isotopes, no_isotope, plain_isotope, average_isotope, specific_isotopes, shift_text, specific_text, isotopes_text}
use Rattle.rules.specs.Isotopes.{shift_map, specific_map, isotopes_map}
use Rattle.rules.specs.Adducts.{Added, added_formula, electron, added_map, Item, item_text, adduct_text, item_map}
use Rattle.rules.specs.Confidences.{Confidence, meant_decimal}
use Rattle.rules.specs.Annotations.{SpelledAnnotation, Deviation, flag_text}
use Rattle.rules.specs.Fields.{filled_annotation, Table, filled, filled_cut}
use Rattle.rules.specs.Editions.{Edition, LineEdition}
use Rattle.rules.specs.Answers.{SoundIn}
use Rattle.rules.specs.Limits.{max_annotations, max_losses, max_isotopes, max_items, max_units, max_text, max_position, max_count, max_charge, fits}
use Rattle.rules.specs.Limits.{bare, part, opt_part, number_part, closed_part, decimal_part, row_marks, row_part, unit_marks, formula_part, ion_parts, lost_part, loss_parts, loss_marks}
use Rattle.rules.specs.Limits.{shift_marks, specific_marks, isotopes_marks, added_part, item_parts, item_marks, adduct_marks}
use Rattle.rules.specs.Limits.{analyte_part, charge_part, deviation_part, confidence_part, annotation_parts, annotation_marks}
use Rattle.rules.proofs.Totals.{in_map}
use Rattle.rules.proofs.Keeps.{kept_tail, kept_part, not_past, not_many, row_each, row_few}
use Rattle.rules.proofs.Bounds.{each_in, line_each, table_few, unit_counted}
use Rattle.rules.proofs.FitParts.{number_within}
use Rattle.rules.proofs.FitDecimals.{kept_true, confidence_kept}
use Rattle.write_table.proofs.Within.{IfThere, Row, AtMost, Short, UnitWithin, FormulaWithin, IonWithin, LostWithin, LossWithin, ShiftWithin, SpecificWithin, IsotopesWithin}
use Rattle.write_table.proofs.Within.{AddedWithin, ItemWithin, DecimalWithin, DeviationWithin, AnnotationWithin, same_within}

-- ---- in general

-- a row whose members count themselves
row_limited : {A B : Type 0} (text : A → List ℕ) (marks : ℕ → A → ℕ → List Mark) (bound : ℕ) (f : A → B) (P : B → Type 0)
    → ((i : ℕ) (x : A) (at : ℕ) → Kept (marks i x at) → i < bound) → ((i : ℕ) (x : A) (at : ℕ) → Kept (marks i x at) → P (f x))
    → (xs : List A) (at : ℕ) → Kept (row_marks text marks 0 xs at) → Row bound P (map f xs)
row_limited text marks bound f P counted within xs at k =
    let n = row_few text marks bound counted 0 xs at k (omega arith) in
    record {
      few = omega (arith, length-map xs f);
      each = in_map f P xs (λ x i. let c = row_each text marks 0 xs at k x i in within c.0 x c.1 c.2);
    }

written_within : (c : Written) (at : ℕ) → Kept ((opt_part (number_part max_count) c).marks at) → AtMost max_count (filled c)
written_within silent at k = omega arith
written_within (written n) at k = number_within max_count n at k

if_number : {m : ℕ} (bound : ℕ) (c : Opt (From m)) (at : ℕ) → Kept ((opt_part (number_part bound) c).marks at) → IfThere (AtMost bound) c
if_number bound silent at k = tt
if_number bound (written n) at k = number_within bound n at k

short : {f : List ℕ → Bool} (text : Such f → List ℕ) (t : Such f) (at : ℕ) → Kept ((closed_part text t).marks at) → Short t
short text t at k = not_past max_text (length t.bytes) (λ b. k _ here b)

if_short : {f : List ℕ → Bool} (text : Such f → List ℕ) (t : Opt (Such f)) (at : ℕ) → Kept ((opt_part (closed_part text) t).marks at) → IfThere Short t
if_short text silent at k = tt
if_short text (written t) at k = short text t at k

-- ---- the parts of an annotation

unit_limited : (i : ℕ) (u : FormulaUnit Written) (at : ℕ) → Kept (unit_marks i u at) → UnitWithin (unit_map filled u)
unit_limited i (plain s c) at k =
    let count = opt_part (number_part max_count) c in
    let p = kept_part at (bare (word_of s) ∷ count ∷ []) (kept_tail k) count (later here) in
    written_within c p.0 p.1
unit_limited i (labelled a s c) at k =
    let ps = bare (bytes "[") ∷ number_part max_count a ∷ bare (word_of s) ∷ number_part max_count c ∷ [] in
    let p = kept_part at ps (kept_tail k) (number_part max_count a) (later here) in
    let q = kept_part at ps (kept_tail k) (number_part max_count c) (later (later (later here))) in
    (number_within max_count a p.0 p.1, number_within max_count c q.0 q.1)

formula_limited : (f : Formula Written) (at : ℕ) → Kept ((formula_part f).marks at) → FormulaWithin (formula_map filled f)
formula_limited f at k = row_limited unit_text unit_marks max_units (unit_map filled) UnitWithin unit_counted unit_limited (items f) at k

ion_limited : (x : SpelledIon) (at : ℕ) → Kept (marks_of at (ion_parts x)) → IonWithin (ion_map filled filled_cut x)
ion_limited (series s n t) at k =
    let keep = kept_part at (ion_parts (series s n t)) k in
    let p = keep (number_part max_position n) (later here) in
    let q = keep (opt_part (closed_part braced_text) t) (later (later here)) in
    (number_within max_position n p.0 p.1, if_short braced_text t q.0 q.1)
ion_limited (internal c m n t) at k =
    let keep = kept_part at (ion_parts (internal c m n t)) k in
    let p = keep (number_part max_position m) (later (later here)) in
    let q = keep (number_part max_position n) (later (later (later (later here)))) in
    let r = keep (opt_part (closed_part braced_text) t) (later (later (later (later (later here))))) in
    (number_within max_position m p.0 p.1, (number_within max_position n q.0 q.1, if_short braced_text t r.0 r.1))
ion_limited (immonium a m) at k =
    let p = kept_part at (ion_parts (immonium a m)) k (opt_part (closed_part bracket_text) m) (later (later here)) in
    if_short bracket_text m p.0 p.1
ion_limited precursor at k = tt
ion_limited (reference n) at k =
    let p = kept_part at (ion_parts (reference n)) k (closed_part bracket_text n) (later here) in
    short bracket_text n p.0 p.1
ion_limited (named t) at k =
    let p = kept_part at (ion_parts (named t)) k (closed_part braced_text t) (later here) in
    short braced_text t p.0 p.1
ion_limited (composed f) at k =
    let p = kept_part at (ion_parts (composed f)) k (formula_part f) (later here) in
    formula_limited f p.0 p.1
ion_limited (smiles t) at k =
    let p = kept_part at (ion_parts (smiles t)) k (closed_part braced_text t) (later here) in
    short braced_text t p.0 p.1
ion_limited (unknown n) at k =
    let p = kept_part at (ion_parts (unknown n)) k (opt_part (number_part max_position) n) (later here) in
    if_number max_position n p.0 p.1

lost_limited : (x : Lost Written) (at : ℕ) → Kept ((lost_part x).marks at) → LostWithin (lost_map filled x)
lost_limited (lost_formula f) at k = formula_limited f at k
lost_limited (lost_name_lem n) at k = short bracket_text n at k

loss_limited : (i : ℕ) (l : Loss Written) (at : ℕ) → Kept (loss_marks i l at) → LossWithin (loss_map filled l)
loss_limited i l at k =
    let p = kept_part at (loss_parts l) (kept_tail k) (opt_part (number_part max_count) l.count) (later here) in
    let q = kept_part at (loss_parts l) (kept_tail k) (lost_part l.what) (later (later here)) in
    record { count = if_number max_count l.count p.0 p.1; what = lost_limited l.what q.0 q.1 }

shift_limited : (x : Shift Written) (at : ℕ) → Kept (shift_marks x at) → ShiftWithin (shift_map filled x)
shift_limited x at k =
    let count = opt_part (number_part max_count) x.count in
    let p = kept_part at (bare (sign_text x.sign) ∷ count ∷ []) k count (later here) in
    written_within x.count p.0 p.1

specific_limited : (i : ℕ) (x : Specific Written) (at : ℕ) → Kept (specific_marks i x at) → SpecificWithin (specific_map filled x)
specific_limited i x at k =
    let shift = part (shift_text x.shift) (shift_marks x.shift) in
    let ps = shift ∷ number_part max_count x.nucleons ∷ [] in
    let p = kept_part at ps (kept_tail k) shift here in
    let q = kept_part at ps (kept_tail k) (number_part max_count x.nucleons) (later here) in
    record { shift = shift_limited x.shift p.0 p.1; nucleons = number_within max_count x.nucleons q.0 q.1 }

isotopes_limited : (x : Isotopes Written) (at : ℕ) → Kept (isotopes_marks x at) → IsotopesWithin (isotopes_map filled x)
isotopes_limited no_isotope at k = tt
isotopes_limited (plain_isotope x) at k = shift_limited x at k
isotopes_limited (average_isotope x) at k = shift_limited x at k
isotopes_limited (specific_isotopes xs) at k =
    row_limited specific_text specific_marks max_isotopes (specific_map filled) SpecificWithin (λ i x p m. not_many max_isotopes i p _ m) specific_limited (items xs) at k

added_limited : (x : Added Written) (at : ℕ) → Kept ((added_part x).marks at) → AddedWithin (added_map filled x)
added_limited (added_formula f) at k = formula_limited f at k
added_limited electron at k = tt

item_limited : (i : ℕ) (x : Item Written) (at : ℕ) → Kept (item_marks i x at) → ItemWithin (item_map filled x)
item_limited i x at k =
    let p = kept_part at (item_parts x) (kept_tail k) (opt_part (number_part max_count) x.count) (later here) in
    let q = kept_part at (item_parts x) (kept_tail k) (added_part x.what) (later (later here)) in
    record { count = written_within x.count p.0 p.1; what = added_limited x.what q.0 q.1 }

adduct_limited : (xs : List (Item Written)) (at : ℕ) → Kept (adduct_marks xs at) → Row max_items ItemWithin (map (item_map filled) xs)
adduct_limited xs at k =
    let row = row_part item_text item_marks xs in
    let p = kept_part at (bare (bytes "[M") ∷ row ∷ []) k row (later here) in
    row_limited item_text item_marks max_items (item_map filled) ItemWithin (λ i x q m. not_many max_items i q _ m) item_limited xs p.0 p.1

analyte_limited : (x : Opt ℕ) (at : ℕ) → Kept ((opt_part analyte_part x).marks at) → IfThere (λ n. n ≤ max_position) x
analyte_limited silent at k = tt
analyte_limited (written n) at k = not_past max_position n (λ b. k _ here b)

charge_limited : (x : Opt (From 2)) (at : ℕ) → Kept ((opt_part charge_part x).marks at) → IfThere (AtMost max_charge) x
charge_limited silent at k = tt
charge_limited (written n) at k = not_past max_charge n.value (λ b. k _ here b)

deviation_limited : (x : Opt Deviation) (at : ℕ) → Kept ((opt_part deviation_part x).marks at) → IfThere DeviationWithin x
deviation_limited silent at k = tt
deviation_limited (written d) at k =
    let p = kept_part at (bare (bytes "/") ∷ bare (flag_text (bytes "-") d.minus) ∷ decimal_part d.size ∷ []) k (decimal_part d.size) (later (later here)) in
    kept_true (fits d.size) (λ b. p.1 _ here b)

confidence_limited : (x : Opt Confidence) (at : ℕ) → Kept ((opt_part confidence_part x).marks at) → IfThere DecimalWithin (opt_map meant_decimal x)
confidence_limited silent at k = tt
confidence_limited (written c) at k = confidence_kept c at k

annotation_limited : (i : ℕ) (a : SpelledAnnotation) (at : ℕ) → Kept (annotation_marks i a at) → AnnotationWithin (filled_annotation a)
annotation_limited i a at k =
    let h : Kept (marks_of at (annotation_parts a)) = kept_tail k in
    let keep = kept_part at (annotation_parts a) h in
    let an = keep (opt_part analyte_part a.analyte) (later here) in
    let ion = keep (part (ion_text a.ion) (λ at. marks_of at (ion_parts a.ion))) (later (later here)) in
    let ls = keep (row_part loss_text loss_marks a.losses) (later (later (later here))) in
    let is = keep (part (isotopes_text a.isotopes) (isotopes_marks a.isotopes)) (later (later (later (later here)))) in
    let ad = keep (part (adduct_text a.adduct) (adduct_marks a.adduct)) (later (later (later (later (later here))))) in
    let ch = keep (opt_part charge_part a.charge) (later (later (later (later (later (later here)))))) in
    let de = keep (opt_part deviation_part a.deviation) (later (later (later (later (later (later (later here))))))) in
    let co = keep (opt_part confidence_part a.confidence) (later (later (later (later (later (later (later (later here)))))))) in
    record {
      analyte = analyte_limited a.analyte an.0 an.1;
      ion = ion_limited a.ion ion.0 ion.1;
      losses = row_limited loss_text loss_marks max_losses (loss_map filled) LossWithin (λ j x p m. not_many max_losses j p _ m) loss_limited a.losses ls.0 ls.1;
      isotopes = isotopes_limited a.isotopes is.0 is.1;
      adduct = adduct_limited a.adduct ad.0 ad.1;
      charge = charge_limited a.charge ch.0 ch.1;
      deviation = deviation_limited a.deviation de.0 de.1;
      confidence = confidence_limited a.confidence co.0 co.1;
    }

-- ---- a sound table

pub table_within : {l : LineEdition} {e : Edition} (t : Table) → SoundIn l e t → Row max_annotations AnnotationWithin t
table_within t s =
    record {
      few = table_few t s;
      each = λ b i.
          let c = each_in s.says b i in
          let k = line_each s.spelling s.limits c.0 c.1 in
          same_within c.2.fields (annotation_limited k.0 c.0 k.1 k.2);
    }
