-- What the limits say of the sizes in a table: of each annotation of it, and how many annotations it has. Assumes nothing.
use Prim.Native.Nat.{ℕ, suc, ◌+◌, ◌*◌, ◌≤◌, ◌<◌}
use mathlib.Core.Path.{◌≡◌, refl, ap, subst}
use mathlib.Core.Bool.{Bool}
use mathlib.Core.List.{List, [], ◌∷◌, map}
use native.Mathlib.Omega.{arith}
use lib.ListN.{length, length-map}
use Rattle.lang.specs.Parts.{Opt, silent, written, items, Such}
use Rattle.lang.specs.Mark.{In, here, later, Kept, marks_of}
use Rattle.lang.specs.Order.{Each, none, next}
use Rattle.rules.specs.Bytes.{bytes}
use Rattle.rules.specs.Numbers.{Number}
use Rattle.rules.specs.Texts.{braced_text, bracket_text}
use Rattle.rules.specs.Formulas.{Written, FormulaUnit, plain, labelled, unit_text, unit_map, Formula, formula_map}
use Rattle.rules.specs.Ions.{SpelledIon, TableIon, series, internal, immonium, precursor, reference, named, composed, smiles, unknown, ion_text, ion_map}
use Rattle.rules.specs.Losses.{Lost, lost_formula, lost_name_lem, lost_map, Loss, loss_text, loss_map}
use Rattle.rules.specs.Isotopes.{specific_text, specific_map, Isotopes, no_isotope, plain_isotope, average_isotope, specific_isotopes}
use Rattle.rules.specs.Isotopes.{isotopes_text, isotopes_map}
use Rattle.rules.specs.Adducts.{Added, added_formula, electron, added_map, Item, item_text, adduct_text, item_map}
use Rattle.rules.specs.Annotations.{TableAnnotation, SpelledAnnotation, annotation_text}
use Rattle.rules.specs.Lines.{Spelling, next_text}
use Rattle.rules.specs.Fields.{filled_annotation, Table, filled, filled_cut, SameFields}
use Rattle.rules.specs.Limits.{max_annotations, max_losses, max_isotopes, max_items, max_units, max_text}
use Rattle.rules.specs.Limits.{bare, part, opt_part, closed_part, row_marks, row_part}
use Rattle.rules.specs.Limits.{unit_marks, formula_part, ion_parts, lost_part, loss_parts, loss_marks, specific_marks, isotopes_marks, added_part, item_parts, item_marks, adduct_marks}
use Rattle.rules.specs.Limits.{annotation_parts, annotation_marks, next_marks, line_marks}
use Rattle.rules.specs.Editions.{Edition, LineEdition}
use Rattle.rules.specs.Answers.{SoundIn}
use Rattle.rules.specs.Stored.{bytes_of, ion_fields, lost_units, lost_name, specific_record, isotope_records, added_units}
use Rattle.rules.specs.Layout.{unit_width}
use Rattle.rules.proofs.Totals.{in_map, perm_length, perm_in}
use Rattle.rules.proofs.Keeps.{kept_left, kept_right, kept_tail, kept_part, not_past, not_many, row_each, row_few}

-- ---- texts and formulas

text_short : {f : List ℕ → Bool} (text : Such f → List ℕ) (t : Such f) (at : ℕ) → Kept ((closed_part text t).marks at)
    → length t.bytes ≤ max_text
text_short text t at k = not_past max_text (length t.bytes) (λ b. k _ here b)

opt_short : {f : List ℕ → Bool} (text : Such f → List ℕ) (t : Opt (Such f)) (at : ℕ) → Kept ((opt_part (closed_part text) t).marks at)
    → length (bytes_of t) ≤ max_text
opt_short text silent at k = omega arith
opt_short text (written t) at k = text_short text t at k

pub unit_counted : (i : ℕ) (u : FormulaUnit Written) (at : ℕ) → Kept (unit_marks i u at) → i < max_units
unit_counted i (plain s c) at k = not_many max_units i at _ k
unit_counted i (labelled a s c) at k = not_many max_units i at _ k

-- the units of a formula are as many in the table
formula_few : (f : Formula Written) (at : ℕ) → Kept ((formula_part f).marks at) → length (items (formula_map filled f)) ≤ max_units
formula_few f at k = omega (arith, row_few unit_text unit_marks max_units unit_counted 0 (items f) at k (omega arith), length-map f.more (unit_map filled))

-- ---- an ion, a loss, an item

-- units and text within their bounds; as one of the two is empty, no more bytes together than a text has
pub record Small (units : List (FormulaUnit Number)) (text : List ℕ) : Type 0 where
  pub few : length units ≤ max_units
  pub short : length text ≤ max_text
  pub weight : unit_width * length units + length text ≤ max_text

small_text : (w : List ℕ) → length w ≤ max_text → Small [] w
small_text w h = record { few = omega arith; short = h; weight = omega arith }

small_units : (us : List (FormulaUnit Number)) → length us ≤ max_units → Small us []
small_units us h = record { few = h; short = omega arith; weight = omega arith }

ion_small : (x : SpelledIon) (at : ℕ) → Kept (marks_of at (ion_parts x))
    → Small (ion_fields (ion_map filled filled_cut x)).units (ion_fields (ion_map filled filled_cut x)).text
ion_small (series s n t) at k =
    let c = kept_part at (ion_parts (series s n t)) k (opt_part (closed_part braced_text) t) (later (later here)) in
    small_text (bytes_of t) (opt_short braced_text t c.0 c.1)
ion_small (internal l m n t) at k =
    let c = kept_part at (ion_parts (internal l m n t)) k (opt_part (closed_part braced_text) t) (later (later (later (later (later here))))) in
    small_text (bytes_of t) (opt_short braced_text t c.0 c.1)
ion_small (immonium a m) at k =
    let c = kept_part at (ion_parts (immonium a m)) k (opt_part (closed_part bracket_text) m) (later (later here)) in
    small_text (bytes_of m) (opt_short bracket_text m c.0 c.1)
ion_small precursor at k = small_text [] (omega arith)
ion_small (reference n) at k =
    let c = kept_part at (ion_parts (reference n)) k (closed_part bracket_text n) (later here) in
    small_text n.bytes (text_short bracket_text n c.0 c.1)
ion_small (named t) at k =
    let c = kept_part at (ion_parts (named t)) k (closed_part braced_text t) (later here) in
    small_text t.bytes (text_short braced_text t c.0 c.1)
ion_small (composed f) at k =
    let c = kept_part at (ion_parts (composed f)) k (formula_part f) (later here) in
    small_units (items (formula_map filled f)) (formula_few f c.0 c.1)
ion_small (smiles t) at k =
    let c = kept_part at (ion_parts (smiles t)) k (closed_part braced_text t) (later here) in
    small_text t.bytes (text_short braced_text t c.0 c.1)
ion_small (unknown n) at k = small_text [] (omega arith)

lost_small : (x : Lost Written) (at : ℕ) → Kept ((lost_part x).marks at) → Small (lost_units (lost_map filled x)) (lost_name (lost_map filled x))
lost_small (lost_formula f) at k = small_units (items (formula_map filled f)) (formula_few f at k)
lost_small (lost_name_lem n) at k = small_text n.bytes (text_short bracket_text n at k)

added_few : (x : Added Written) (at : ℕ) → Kept ((added_part x).marks at) → length (added_units (added_map filled x)) ≤ max_units
added_few (added_formula f) at k = formula_few f at k
added_few electron at k = omega arith

pub loss_small : (i : ℕ) (l : Loss Written) (at : ℕ) → Kept (loss_marks i l at)
    → Small (lost_units (lost_map filled l.what)) (lost_name (lost_map filled l.what))
loss_small i l at k =
    let c = kept_part at (loss_parts l) (kept_tail k) (lost_part l.what) (later (later here)) in
    lost_small l.what c.0 c.1

pub item_few : (i : ℕ) (x : Item Written) (at : ℕ) → Kept (item_marks i x at) → length (added_units (added_map filled x.what)) ≤ max_units
item_few i x at k =
    let c = kept_part at (item_parts x) (kept_tail k) (added_part x.what) (later (later here)) in
    added_few x.what c.0 c.1

isotopes_few : (x : Isotopes Written) (at : ℕ) → Kept (isotopes_marks x at) → length (isotope_records (isotopes_map filled x)) ≤ max_isotopes
isotopes_few no_isotope at k = omega arith
isotopes_few (plain_isotope x) at k = omega arith
isotopes_few (average_isotope x) at k = omega arith
isotopes_few (specific_isotopes xs) at k =
    let r = row_few specific_text specific_marks max_isotopes (λ i x p h. not_many max_isotopes i p _ h) 0 (items xs) at k (omega arith) in
    omega (arith, length-map (map (specific_map filled) xs.more) specific_record, length-map xs.more (specific_map filled))

-- ---- an annotation

-- how much an annotation within the limits has of everything that has a length
pub record Bounded (a : TableAnnotation) : Type 0 where
  pub ion : Small (ion_fields a.ion).units (ion_fields a.ion).text
  pub losses : length a.losses ≤ max_losses
  pub loss : (l : Loss Number) → In l a.losses → Small (lost_units l.what) (lost_name l.what)
  pub isotopes : length (isotope_records a.isotopes) ≤ max_isotopes
  pub adduct : length a.adduct ≤ max_items
  pub item : (x : Item Number) → In x a.adduct → length (added_units x.what) ≤ max_units

pub kept_bounded : (i : ℕ) (a : SpelledAnnotation) (at : ℕ) → Kept (annotation_marks i a at) → Bounded (filled_annotation a)
kept_bounded i a at k =
    let h : Kept (marks_of at (annotation_parts a)) = kept_tail k in
    let ion = kept_part at (annotation_parts a) h (part (ion_text a.ion) (λ at. marks_of at (ion_parts a.ion))) (later (later here)) in
    let ls = kept_part at (annotation_parts a) h (row_part loss_text loss_marks a.losses) (later (later (later here))) in
    let is = kept_part at (annotation_parts a) h (part (isotopes_text a.isotopes) (isotopes_marks a.isotopes)) (later (later (later (later here)))) in
    let ad = kept_part at (annotation_parts a) h (part (adduct_text a.adduct) (adduct_marks a.adduct)) (later (later (later (later (later here))))) in
    let items = row_part item_text item_marks a.adduct in
    let row = kept_part ad.0 (bare (bytes "[M") ∷ items ∷ []) ad.1 items (later here) in
    let nl = row_few loss_text loss_marks max_losses (λ j x p m. not_many max_losses j p _ m) 0 a.losses ls.0 ls.1 (omega arith) in
    let na = row_few item_text item_marks max_items (λ j x p m. not_many max_items j p _ m) 0 a.adduct row.0 row.1 (omega arith) in
    record {
      ion = ion_small a.ion ion.0 ion.1;
      losses = omega (arith, length-map a.losses (loss_map filled));
      loss = in_map (loss_map filled) (λ l. Small (lost_units l.what) (lost_name l.what)) a.losses (λ l e.
          let c = row_each loss_text loss_marks 0 a.losses ls.0 ls.1 l e in
          loss_small c.0 l c.1 c.2);
      isotopes = isotopes_few a.isotopes is.0 is.1;
      adduct = omega (arith, length-map a.adduct (item_map filled));
      item = in_map (item_map filled) (λ x. length (added_units x.what) ≤ max_units) a.adduct (λ x e.
          let c = row_each item_text item_marks 0 a.adduct row.0 row.1 x e in
          item_few c.0 x c.1 c.2);
    }

-- the bounds do not depend on the order of losses and items
pub same_bounded : {a b : TableAnnotation} → SameFields a b → Bounded a → Bounded b
same_bounded {a} {b} e h =
    record {
      ion = subst (λ (x : TableIon). Small (ion_fields x).units (ion_fields x).text) e.ion h.ion;
      losses = subst (λ (n : ℕ). n ≤ max_losses) (perm_length e.losses) h.losses;
      loss = λ l i. h.loss l (perm_in e.losses l i);
      isotopes = subst (λ (x : Isotopes Number). length (isotope_records x) ≤ max_isotopes) e.isotopes h.isotopes;
      adduct = subst (λ (n : ℕ). n ≤ max_items) (perm_length e.adduct) h.adduct;
      item = λ x i. h.item x (perm_in e.adduct x i);
    }

-- ---- a line and its table

pub each_length : {A B : Type 0} {R : A → B → Type 0} {l : List A} {m : List B} → Each R l m → length l ≡ length m
each_length none = refl
each_length (next r e) = ap suc (each_length e)

-- what stands in the relation with each member of the other list
pub each_in : {A B : Type 0} {R : A → B → Type 0} {l : List A} {m : List B} → Each R l m → (b : B) → In b m → (a : A) × In a l × R a b
each_in none b i = elim i [ ]
each_in (next {a = a} r e) b here = (a, here, r)
each_in (next r e) b (later i) = let c = each_in e b i in (c.0, later c.1, c.2)

next_few : (i : ℕ) (a : SpelledAnnotation) (at : ℕ) → Kept (next_marks i a at) → i < max_annotations
next_few i a at k = not_many max_annotations i (at + 1) _ k

pub line_few : (s : Spelling) → Kept (line_marks s) → length s ≤ max_annotations
line_few [] k = omega arith
line_few (a ∷ more) k =
    let m = row_marks next_text next_marks 1 more (length (annotation_text a)) in
    let r = row_few next_text next_marks max_annotations next_few 1 more (length (annotation_text a)) (kept_right (annotation_marks 0 a 0) m k) (omega arith) in
    omega arith

-- each annotation of a line is kept, at its place
pub line_each : (s : Spelling) → Kept (line_marks s) → (a : SpelledAnnotation) → In a s → (i : ℕ) × (at : ℕ) × Kept (annotation_marks i a at)
line_each [] k b i = elim i [ ]
line_each (a ∷ more) k b here =
    (0, 0, kept_left (annotation_marks 0 a 0) (row_marks next_text next_marks 1 more (length (annotation_text a))) k)
line_each (a ∷ more) k b (later i) =
    let m = row_marks next_text next_marks 1 more (length (annotation_text a)) in
    let c = row_each next_text next_marks 1 more (length (annotation_text a)) (kept_right (annotation_marks 0 a 0) m k) b i in
    (c.0, c.1 + 1, c.2)

pub line_bounded : (s : Spelling) → Kept (line_marks s) → (a : SpelledAnnotation) → In a s → Bounded (filled_annotation a)
line_bounded s k a i = let c = line_each s k a i in kept_bounded c.0 a c.1 c.2

pub table_few : {l : LineEdition} {e : Edition} (t : Table) → SoundIn l e t → length t ≤ max_annotations
table_few t s = subst (λ (n : ℕ). n ≤ max_annotations) (each_length s.says) (line_few s.spelling s.limits)

pub table_bounded : {l : LineEdition} {e : Edition} (t : Table) → SoundIn l e t → (a : TableAnnotation) → In a t → Bounded a
table_bounded t s a i =
    let c = each_in s.says a i in
    same_bounded c.2.fields (line_bounded s.spelling s.limits c.0 c.1)
