-- The preferred spelling of what is within breaks no limit, wherever it stands. Assumes nothing.
use Prim.Native.Nat.{ℕ, ◌+◌, ◌≤◌, ◌<◌}
use mathlib.Core.Bool.{Bool, true, false, not}
use mathlib.Core.List.{List, [], ◌∷◌, ◌++◌, map}
use native.Mathlib.Omega.{arith}
use lib.Dec.{T, leb, ltb, leb→le, ltb→lt}
use lib.ListN.{length}
use Rattle.lang.specs.Parts.{Opt, silent, written, opt_map, items, Such, word_of}
use Rattle.lang.specs.Mark.{Mark, In, here, later, Kept, Part, marks_of}
use Rattle.rules.specs.Bytes.{bytes}
use Rattle.rules.specs.Numbers.{From, Number}
use Rattle.rules.specs.Decimals.{Decimal}
use Rattle.rules.specs.Texts.{braced_text, bracket_text}
use Rattle.rules.specs.Formulas.{FormulaUnit, plain, labelled, unit_text, unit_map, Formula, formula_map}
use Rattle.rules.specs.Ions.{series, internal, immonium, precursor, reference, named, composed, smiles, unknown, ion_text, ion_map, TableIon}
use Rattle.rules.specs.Losses.{sign_text, Lost, lost_formula, lost_name_lem, lost_map, Loss, loss_text, loss_map}
use Rattle.rules.specs.Isotopes.{Shift, Specific, Isotopes, no_isotope, plain_isotope, average_isotope, specific_isotopes, shift_text, specific_text, isotopes_text}
use Rattle.rules.specs.Isotopes.{shift_map, specific_map, isotopes_map}
use Rattle.rules.specs.Adducts.{Added, added_formula, electron, added_map, Item, item_text, adduct_text, item_map}
use Rattle.rules.specs.Confidences.{in_full}
use Rattle.rules.specs.Annotations.{TableAnnotation, Deviation, flag_text, annotation_text}
use Rattle.rules.specs.Lines.{next_text}
use Rattle.rules.specs.Preferred.{shortened_annotation, shortened, preferred_spelling, shortened_cut}
use Rattle.rules.specs.Fields.{Table}
use Rattle.rules.specs.Limits.{max_annotations, max_losses, max_isotopes, max_items, max_units, max_text, max_position, max_count, max_charge, fits, many_mark}
use Rattle.rules.specs.Limits.{bare, part, opt_part, number_part, closed_part, decimal_part, row_marks, row_part, unit_marks, formula_part, ion_parts, lost_part, loss_marks}
use Rattle.rules.specs.Limits.{shift_marks, specific_marks, isotopes_marks, added_part, item_marks, adduct_marks}
use Rattle.rules.specs.Limits.{analyte_part, charge_part, deviation_part, confidence_part, annotation_marks, next_marks, line_marks}
use Rattle.rules.proofs.Totals.{in_none}
use Rattle.rules.proofs.Keeps.{kept_tail}
use Rattle.write_table.proofs.Within.{IfThere, Row, AtMost, Short, UnitWithin, FormulaWithin, IonWithin, LostWithin, LossWithin, ShiftWithin, SpecificWithin, IsotopesWithin}
use Rattle.write_table.proofs.Within.{AddedWithin, ItemWithin, DecimalWithin, DeviationWithin, AnnotationWithin}

-- ---- marks in general

kept_none : Kept []
kept_none n i t = in_none i

kept_more : (m : Mark) (ms : List Mark) → (T m.broken → ⊥) → Kept ms → Kept (m ∷ ms)
kept_more m ms h k n here t = h t
kept_more m ms h k n (later i) t = k n i t

kept_join : (ms ns : List Mark) → Kept ms → Kept ns → Kept (ms ++ ns)
kept_join [] ns k l = l
kept_join (m ∷ ms) ns k l = kept_more m (ms ++ ns) (k m here) (kept_join ms ns (kept_tail k) l)

-- no limit in the part is broken
record Unbroken (p : Part) : Type 0 where
  ok : (at : ℕ) → Kept (p.marks at)

data AllUnbroken : List Part → Type 0 where
  end : AllUnbroken []
  also : {p : Part} {ps : List Part} → Unbroken p → AllUnbroken ps → AllUnbroken (p ∷ ps)

parts : {ps : List Part} → AllUnbroken ps → (at : ℕ) → Kept (marks_of at ps)
parts end at = kept_none
parts {ps = p ∷ ps} (also u a) at =
    kept_join (p.marks at) (marks_of (at + length p.text) ps) (u.ok at) (parts a (at + length p.text))

-- one of a row, not one too many
counted : (bound i at : ℕ) (ms : List Mark) → i < bound → Kept ms → Kept (many_mark bound i at ∷ ms)
counted bound i at ms l k = kept_more (many_mark bound i at) ms (λ t. let h = leb→le bound i t in omega arith) k

row_kept : {A B : Type 0} (text : B → List ℕ) (marks : ℕ → B → ℕ → List Mark) (bound : ℕ) (f : A → B) (P : A → Type 0)
    → ((i : ℕ) (x : A) (at : ℕ) → i < bound → P x → Kept (marks i (f x) at))
    → (i : ℕ) (xs : List A) (at : ℕ) → i + length xs ≤ bound → ((x : A) → In x xs → P x) → Kept (row_marks text marks i (map f xs) at)
row_kept text marks bound f P h i [] at n w = kept_none
row_kept text marks bound f P h i (x ∷ xs) at n w =
    kept_join (marks i (f x) at) (row_marks text marks (i + 1) (map f xs) (at + length (text (f x))))
    (h i x at (omega arith) (w x here))
    (row_kept text marks bound f P h (i + 1) xs (at + length (text (f x))) (omega arith) (λ y j. w y (later j)))

-- ---- numbers, texts, decimals

not_over : (bound n : ℕ) → n ≤ bound → T (ltb bound n) → ⊥
not_over bound n h t = let g = ltb→lt bound n t in omega arith

not_refused : (b : Bool) → T b → T (not b) → ⊥
not_refused true t n = n
not_refused false t n = t

bare_ok : (w : List ℕ) → Unbroken (bare w)
bare_ok w = record { ok = λ at. kept_none }

number_ok : {m : ℕ} (bound : ℕ) (n : From m) → AtMost bound n → Unbroken (number_part bound n)
number_ok bound n h = record { ok = λ at. kept_more _ [] (not_over bound n.value h) kept_none }

opt_ok : {A : Type 0} (P : A → Type 0) (f : A → Part) → ((x : A) → P x → Unbroken (f x)) → (o : Opt A) → IfThere P o → Unbroken (opt_part f o)
opt_ok P f h silent w = bare_ok []
opt_ok P f h (written x) w = h x w

if_number_ok : {m : ℕ} (bound : ℕ) (c : Opt (From m)) → IfThere (AtMost bound) c → Unbroken (opt_part (number_part bound) c)
if_number_ok bound c w = opt_ok (AtMost bound) (number_part bound) (number_ok bound) c w

shortened_ok : (n : Number) → AtMost max_count n → Unbroken (opt_part (number_part max_count) (shortened n))
shortened_ok n h = by (leb n.value 1)
  where
    by : (x : Bool) → Unbroken (opt_part (number_part {m = 1} max_count) (elim x [ true ↦ silent | false ↦ written n ]))
    by true = bare_ok []
    by false = number_ok max_count n h

closed_ok : {test : List ℕ → Bool} (text : Such test → List ℕ) (t : Such test) → Short t → Unbroken (closed_part text t)
closed_ok text t h = record { ok = λ at. kept_more _ [] (not_over max_text (length t.bytes) h) kept_none }

if_closed_ok : {test : List ℕ → Bool} (text : Such test → List ℕ) (t : Opt (Such test)) → IfThere Short t → Unbroken (opt_part (closed_part text) t)
if_closed_ok text t w = opt_ok Short (closed_part text) (closed_ok text) t w

decimal_ok : (d : Decimal) → DecimalWithin d → Unbroken (decimal_part d)
decimal_ok d h = record { ok = λ at. kept_more _ [] (not_refused (fits d) h) kept_none }

-- ---- document 01's parts

unit_ok : (i : ℕ) (u : FormulaUnit Number) (at : ℕ) → i < max_units → UnitWithin u → Kept (unit_marks i (unit_map shortened u) at)
unit_ok i (plain s c) at l w = counted max_units i at _ l (parts (also (bare_ok (word_of s)) (also (shortened_ok c w) end)) at)
unit_ok i (labelled a s c) at l w =
    counted max_units i at _ l
    (parts (also (bare_ok (bytes "[")) (also (number_ok max_count a w.0) (also (bare_ok (word_of s)) (also (number_ok max_count c w.1) end)))) at)

formula_ok : (f : Formula Number) → FormulaWithin f → Unbroken (formula_part (formula_map shortened f))
formula_ok f w =
    record { ok = λ at. row_kept unit_text unit_marks max_units (unit_map shortened) UnitWithin unit_ok 0 (items f) at (omega (arith, w.few)) w.each }

ion_ok : (x : TableIon) → IonWithin x → AllUnbroken (ion_parts (ion_map shortened shortened_cut x))
ion_ok (series s n t) w = also (bare_ok _) (also (number_ok max_position n w.0) (also (if_closed_ok braced_text t w.1) end))
ion_ok (internal c m n t) w =
    also (bare_ok _) (also (bare_ok _) (also (number_ok max_position m w.0)
    (also (bare_ok _) (also (number_ok max_position n w.1.0) (also (if_closed_ok braced_text t w.1.1) end)))))
ion_ok (immonium a m) w = also (bare_ok _) (also (bare_ok _) (also (if_closed_ok bracket_text m w) end))
ion_ok precursor w = end
ion_ok (reference n) w = also (bare_ok _) (also (closed_ok bracket_text n w) end)
ion_ok (named t) w = also (bare_ok _) (also (closed_ok braced_text t w) end)
ion_ok (composed f) w = also (bare_ok _) (also (formula_ok f w) end)
ion_ok (smiles t) w = also (bare_ok _) (also (closed_ok braced_text t w) end)
ion_ok (unknown n) w = also (bare_ok _) (also (if_number_ok max_position n w) end)

lost_ok : (x : Lost Number) → LostWithin x → Unbroken (lost_part (lost_map shortened x))
lost_ok (lost_formula f) w = formula_ok f w
lost_ok (lost_name_lem n) w = closed_ok bracket_text n w

loss_ok : (i : ℕ) (l : Loss Number) (at : ℕ) → i < max_losses → LossWithin l → Kept (loss_marks i (loss_map shortened l) at)
loss_ok i l at n w =
    counted max_losses i at _ n
    (parts (also (bare_ok (sign_text l.sign)) (also (if_number_ok max_count l.count w.count) (also (lost_ok l.what w.what) end))) at)

shift_ok : (x : Shift Number) (at : ℕ) → ShiftWithin x → Kept (shift_marks (shift_map shortened x) at)
shift_ok x at w = parts (also (bare_ok (sign_text x.sign)) (also (shortened_ok x.count w) end)) at

specific_ok : (i : ℕ) (x : Specific Number) (at : ℕ) → i < max_isotopes → SpecificWithin x → Kept (specific_marks i (specific_map shortened x) at)
specific_ok i x at l w =
    let shift = shift_map shortened x.shift in
    counted max_isotopes i at _ l
    (parts (also {p = part (shift_text shift) (shift_marks shift)} (record { ok = λ at. shift_ok x.shift at w.shift })
    (also (number_ok max_count x.nucleons w.nucleons) end)) at)

isotopes_ok : (x : Isotopes Number) (at : ℕ) → IsotopesWithin x → Kept (isotopes_marks (isotopes_map shortened x) at)
isotopes_ok no_isotope at w = kept_none
isotopes_ok (plain_isotope x) at w = shift_ok x at w
isotopes_ok (average_isotope x) at w = shift_ok x at w
isotopes_ok (specific_isotopes xs) at w =
    row_kept specific_text specific_marks max_isotopes (specific_map shortened) SpecificWithin specific_ok 0 (items xs) at (omega (arith, w.few)) w.each

added_ok : (x : Added Number) → AddedWithin x → Unbroken (added_part (added_map shortened x))
added_ok (added_formula f) w = formula_ok f w
added_ok electron w = bare_ok _

item_ok : (i : ℕ) (x : Item Number) (at : ℕ) → i < max_items → ItemWithin x → Kept (item_marks i (item_map shortened x) at)
item_ok i x at l w =
    counted max_items i at _ l
    (parts (also (bare_ok (sign_text x.sign)) (also (shortened_ok x.count w.count) (also (added_ok x.what w.what) end))) at)

adduct_ok : (xs : List (Item Number)) (at : ℕ) → Row max_items ItemWithin xs → Kept (adduct_marks (map (item_map shortened) xs) at)
adduct_ok xs at w =
    parts (also (bare_ok (bytes "[M"))
    (also {p = row_part item_text item_marks (map (item_map shortened) xs)}
    (record { ok = λ at. row_kept item_text item_marks max_items (item_map shortened) ItemWithin item_ok 0 xs at (omega (arith, w.few)) w.each }) end)) at

analyte_ok : (n : ℕ) → n ≤ max_position → Unbroken (analyte_part n)
analyte_ok n h = record { ok = λ at. kept_more _ [] (not_over max_position n h) kept_none }

charge_ok : (n : From 2) → AtMost max_charge n → Unbroken (charge_part n)
charge_ok n h = record { ok = λ at. kept_more _ [] (not_over max_charge n.value h) kept_none }

deviation_ok : (d : Deviation) → DeviationWithin d → Unbroken (deviation_part d)
deviation_ok d h =
    record { ok = λ at. parts (also (bare_ok (bytes "/")) (also (bare_ok (flag_text (bytes "-") d.minus)) (also (decimal_ok d.size h) end))) at }

confidence_ok : (d : Decimal) → DecimalWithin d → Unbroken (confidence_part (in_full d))
confidence_ok d h = record { ok = λ at. kept_more _ [] (not_refused (fits d) h) kept_none }

full_ok : (x : Opt Decimal) → IfThere DecimalWithin x → Unbroken (opt_part confidence_part (opt_map in_full x))
full_ok silent w = bare_ok []
full_ok (written d) w = confidence_ok d w

pub annotation_ok : (i : ℕ) (b : TableAnnotation) (at : ℕ) → i < max_annotations → AnnotationWithin b → Kept (annotation_marks i (shortened_annotation b) at)
annotation_ok i b at l w =
    let a = shortened_annotation b in
    counted max_annotations i at _ l
    (parts
    (also (bare_ok (flag_text (bytes "&") b.marked))
    (also (opt_ok (λ n. n ≤ max_position) analyte_part analyte_ok b.analyte w.analyte)
    (also {p = part (ion_text a.ion) (λ at. marks_of at (ion_parts a.ion))} (record { ok = λ at. parts (ion_ok b.ion w.ion) at })
    (also {p = row_part loss_text loss_marks a.losses}
    (record { ok = λ at. row_kept loss_text loss_marks max_losses (loss_map shortened) LossWithin loss_ok 0 b.losses at (omega (arith, w.losses.few)) w.losses.each })
    (also {p = part (isotopes_text a.isotopes) (isotopes_marks a.isotopes)} (record { ok = λ at. isotopes_ok b.isotopes at w.isotopes })
    (also {p = part (adduct_text a.adduct) (adduct_marks a.adduct)} (record { ok = λ at. adduct_ok b.adduct at w.adduct })
    (also (opt_ok (AtMost max_charge) charge_part charge_ok b.charge w.charge)
    (also (opt_ok DeviationWithin deviation_part deviation_ok b.deviation w.deviation)
    (also (full_ok b.confidence w.confidence) end)))))))))
    at)

-- ---- a line

pub line_kept : (t : Table) → Row max_annotations AnnotationWithin t → Kept (line_marks (preferred_spelling t))
line_kept [] w = kept_none
line_kept (b ∷ t) w =
    let a = shortened_annotation b in
    let n = length (annotation_text a) in
    kept_join (annotation_marks 0 a 0) (row_marks next_text next_marks 1 (preferred_spelling t) n)
    (annotation_ok 0 b 0 (omega arith) (w.each b here))
    (row_kept next_text next_marks max_annotations shortened_annotation AnnotationWithin (λ i x at. annotation_ok i x (at + 1)) 1 t n
    (omega (arith, w.few)) (λ y j. w.each y (later j)))
