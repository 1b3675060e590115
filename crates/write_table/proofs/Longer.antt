-- How much longer than another spelling the preferred one is: by one byte for each annotation at most, the 0 before the point of its
-- confidence. It leaves out each 1 that may be left out, and puts losses and adduct items in another order. Assumes nothing.
use Prim.Native.Nat.{ℕ, suc, ◌+◌, ◌≤◌}
use mathlib.Core.Path.{◌≡◌, refl, subst}
use mathlib.Core.Bool.{Bool, true, false}
use mathlib.Core.List.{List, [], ◌∷◌, ◌++◌, map}
use native.Mathlib.Omega.{arith}
use lib.Dec.{eqb, leb}
use lib.ListN.{length, length-append}
use Rattle.lang.specs.Parts.{Opt, silent, written, opt_text, opt_map, Some, flat, word_of}
use Rattle.lang.specs.Order.{Perm, Each, none, next}
use Rattle.rules.specs.Bytes.{bytes}
use Rattle.rules.specs.Texts.{braced_text}
use Rattle.rules.specs.Numbers.{Number, number_text}
use Rattle.rules.specs.Formulas.{Written, written_text, FormulaUnit, plain, labelled, unit_text, unit_map, Formula, formula_text, formula_map}
use Rattle.rules.specs.Ions.{cleavage_names, Letters, series, internal, immonium, precursor, reference, named, composed, smiles, unknown, ion_text, ion_map, SpelledIon, TableIon}
use Rattle.rules.specs.Losses.{sign_text, Lost, lost_formula, lost_name_lem, lost_text, lost_map, Loss, loss_text, loss_map}
use Rattle.rules.specs.Isotopes.{Shift, shift_text, shift_map, Specific, specific_text, specific_map}
use Rattle.rules.specs.Isotopes.{Isotopes, no_isotope, plain_isotope, average_isotope, specific_isotopes, isotopes_text, isotopes_map}
use Rattle.rules.specs.Adducts.{Added, added_formula, electron, added_text, added_map, Item, item_text, item_map, adduct_text}
use Rattle.rules.specs.Decimals.{Decimal}
use Rattle.rules.specs.Confidences.{Confidence, in_full, confidence_text, meant_decimal}
use Rattle.rules.specs.Annotations.{TableAnnotation, SpelledAnnotation, flag_text, analyte_text, charge_text, deviation_text, annotation_text}
use Rattle.rules.specs.Lines.{Spelling, line_text, next_text}
use Rattle.rules.specs.Preferred.{shortened_annotation, shortened, preferred_spelling, preferred, shortened_cut}
use Rattle.rules.specs.Fields.{Table, filled, Says, filled_cut}
use Rattle.rules.proofs.Confidences.{full_longer}
use Rattle.rules.proofs.Totals.{total, perm_total, perm_length}

-- ---- texts that are no longer than others

-- a record, so that the texts can be read off it
record NoLonger (u v : List ℕ) : Type 0 where
  le : length u ≤ length v

as_long : {u : List ℕ} → NoLonger u u
as_long = record { le = omega arith }

nothing : (v : List ℕ) → NoLonger [] v
nothing v = record { le = omega arith }

through : {u v w : List ℕ} → NoLonger u v → NoLonger v w → NoLonger u w
through p q = record { le = omega (arith, p.le, q.le) }

joined : (u v : List ℕ) {x y : List ℕ} → NoLonger u v → NoLonger x y → NoLonger (u ++ x) (v ++ y)
joined u v {x} {y} p q = record { le = omega (arith, length-append u x, length-append v y, p.le, q.le) }

-- the same text before both, and after both
after : (w : List ℕ) {u v : List ℕ} → NoLonger u v → NoLonger (w ++ u) (w ++ v)
after w p = joined w w as_long p

before : (u v w : List ℕ) → NoLonger u v → NoLonger (u ++ w) (v ++ w)
before u v w p = joined u v p as_long

-- no more than n bytes longer
record Longer (n : ℕ) (u v : List ℕ) : Type 0 where
  le : length u ≤ length v + n

behind : (u v : List ℕ) {x y : List ℕ} {n : ℕ} → NoLonger u v → Longer n x y → Longer n (u ++ x) (v ++ y)
behind u v {x} {y} p q = record { le = omega (arith, length-append u x, length-append v y, p.le, q.le) }

both : (u v : List ℕ) {x y : List ℕ} {n : ℕ} → Longer 1 u v → Longer n x y → Longer (suc n) (u ++ x) (v ++ y)
both u v {x} {y} p q = record { le = omega (arith, length-append u x, length-append v y, p.le, q.le) }

-- texts of equals
alike : {A : Type 0} (text : A → List ℕ) {x y : A} → x ≡ y → NoLonger (text y) (text x)
alike text {x} e = subst (λ z. NoLonger (text z) (text x)) e as_long

-- ---- texts in a row, each of which may be shorter than it was, in any order

length_mapped : {A B : Type 0} (text : A → List ℕ) (g : B → A) (m : List B)
    → length (flat text (map g m)) ≡ total (λ y. length (text (g y))) m
length_mapped text g [] = refl
length_mapped text g (y ∷ m) = omega (arith, length-append (text (g y)) (flat text (map g m)), length_mapped text g m)

module _ {A B : Type 0} (text : A → List ℕ) (f : A → B) (g : B → A) (h : (x : A) → NoLonger (text (g (f x))) (text x)) where
  in_turn : (l : List A) → NoLonger (flat text (map g (map f l))) (flat text l)
  in_turn [] = as_long
  in_turn (x ∷ l) = joined (text (g (f x))) (text x) (h x) (in_turn l)

  rearranged : (l : List A) (m : List B) → Perm (map f l) m → NoLonger (flat text (map g m)) (flat text l)
  rearranged l m p =
      let w : B → ℕ = λ y. length (text (g y)) in
      record { le = omega (arith, length_mapped text g m, perm_total w p, length_mapped text g (map f l), (in_turn l).le) }

  one_or_more : (s : Some A) → NoLonger (text (g (f s.first)) ++ flat text (map g (map f s.more))) (text s.first ++ flat text s.more)
  one_or_more s = joined (text (g (f s.first))) (text s.first) (h s.first) (in_turn s.more)

-- ---- what has free counts, filled and then shortened

shorter_count : (c : Written) → NoLonger (written_text (shortened (filled c))) (written_text c)
shorter_count silent = as_long
shorter_count (written n) = by (leb n.value 1)
  where
    by : (x : Bool) → NoLonger (written_text (elim x [ true ↦ silent | false ↦ written n ])) (number_text n)
    by true = nothing (number_text n)
    by false = as_long

shorter_unit : (u : FormulaUnit Written) → NoLonger (unit_text (unit_map shortened (unit_map filled u))) (unit_text u)
shorter_unit (plain s c) = after (word_of s) (shorter_count c)
shorter_unit (labelled a s c) = as_long

shorter_formula : (x : Formula Written) → NoLonger (formula_text (formula_map shortened (formula_map filled x))) (formula_text x)
shorter_formula x = one_or_more unit_text (unit_map filled) (unit_map shortened) shorter_unit x

-- letters that say yb are left out
shorter_letters : (c : Letters) → NoLonger (opt_text word_of (shortened_cut (filled_cut c))) (opt_text word_of c)
shorter_letters silent = as_long
shorter_letters (written c) = by (eqb c.which 4)
  where
    by : (t : Bool) → NoLonger (opt_text (word_of {words = map bytes cleavage_names}) (elim t [ true ↦ silent | false ↦ written c ])) (word_of c)
    by true = nothing (word_of c)
    by false = as_long

shorter_ion : (x : SpelledIon) → NoLonger (ion_text (ion_map shortened shortened_cut (ion_map filled filled_cut x))) (ion_text x)
shorter_ion (series s n t) = as_long
shorter_ion (internal c m n t) = after (bytes "m") (before (opt_text word_of (shortened_cut (filled_cut c))) (opt_text word_of c) (number_text m ++ (bytes ":" ++ (number_text n ++ opt_text braced_text t))) (shorter_letters c))
shorter_ion (immonium a m) = as_long
shorter_ion precursor = as_long
shorter_ion (reference n) = as_long
shorter_ion (named t) = as_long
shorter_ion (composed x) =
    after (bytes "f{") (before (formula_text (formula_map shortened (formula_map filled x))) (formula_text x) (bytes "}") (shorter_formula x))
shorter_ion (smiles t) = as_long
shorter_ion (unknown n) = as_long

shorter_lost : (x : Lost Written) → NoLonger (lost_text (lost_map shortened (lost_map filled x))) (lost_text x)
shorter_lost (lost_formula x) = shorter_formula x
shorter_lost (lost_name_lem n) = as_long

shorter_loss : (x : Loss Written) → NoLonger (loss_text (loss_map shortened (loss_map filled x))) (loss_text x)
shorter_loss x = after (sign_text x.sign) (after (opt_text number_text x.count) (shorter_lost x.what))

shorter_shift : (x : Shift Written) → NoLonger (shift_text (shift_map shortened (shift_map filled x))) (shift_text x)
shorter_shift x =
    after (sign_text x.sign) (before (written_text (shortened (filled x.count))) (written_text x.count) (bytes "i") (shorter_count x.count))

-- the shift, and then a text that stays
shifted : (x : Shift Written) (w : List ℕ) → NoLonger (shift_text (shift_map shortened (shift_map filled x)) ++ w) (shift_text x ++ w)
shifted x w = before (shift_text (shift_map shortened (shift_map filled x))) (shift_text x) w (shorter_shift x)

shorter_specific : (x : Specific Written) → NoLonger (specific_text (specific_map shortened (specific_map filled x))) (specific_text x)
shorter_specific x = shifted x.shift (number_text x.nucleons ++ word_of x.symbol)

shorter_isotopes : (x : Isotopes Written) → NoLonger (isotopes_text (isotopes_map shortened (isotopes_map filled x))) (isotopes_text x)
shorter_isotopes no_isotope = as_long
shorter_isotopes (plain_isotope x) = shorter_shift x
shorter_isotopes (average_isotope x) = shifted x (bytes "A")
shorter_isotopes (specific_isotopes xs) = one_or_more specific_text (specific_map filled) (specific_map shortened) shorter_specific xs

shorter_added : (x : Added Written) → NoLonger (added_text (added_map shortened (added_map filled x))) (added_text x)
shorter_added (added_formula x) = shorter_formula x
shorter_added electron = as_long

shorter_item : (x : Item Written) → NoLonger (item_text (item_map shortened (item_map filled x))) (item_text x)
shorter_item x =
    after (sign_text x.sign)
    (joined (written_text (shortened (filled x.count))) (written_text x.count) (shorter_count x.count) (shorter_added x.what))

-- ---- the parts of an annotation, as a table has them

said_ion : (x : SpelledIon) (y : TableIon) → ion_map filled filled_cut x ≡ y → NoLonger (ion_text (ion_map shortened shortened_cut y)) (ion_text x)
said_ion x y e = through (alike (λ z. ion_text (ion_map shortened shortened_cut z)) e) (shorter_ion x)

said_losses : (l : List (Loss Written)) (m : List (Loss Number)) → Perm (map (loss_map filled) l) m
    → NoLonger (flat loss_text (map (loss_map shortened) m)) (flat loss_text l)
said_losses = rearranged loss_text (loss_map filled) (loss_map shortened) shorter_loss

said_isotopes : (x : Isotopes Written) (y : Isotopes Number) → isotopes_map filled x ≡ y
    → NoLonger (isotopes_text (isotopes_map shortened y)) (isotopes_text x)
said_isotopes x y e = through (alike (λ z. isotopes_text (isotopes_map shortened z)) e) (shorter_isotopes x)

said_adduct : (l : List (Item Written)) (m : List (Item Number)) → Perm (map (item_map filled) l) m
    → NoLonger (adduct_text (map (item_map shortened) m)) (adduct_text l)
said_adduct l [] p = nothing (adduct_text l)
said_adduct [] (y ∷ m) p = let e = perm_length p in absurd (omega arith)
said_adduct (x ∷ l) (y ∷ m) p =
    let few = flat item_text (map (item_map shortened) (y ∷ m)) in
    let many = flat item_text (x ∷ l) in
    after (bytes "[M") (before few many (bytes "]") (rearranged item_text (item_map filled) (item_map shortened) shorter_item (x ∷ l) (y ∷ m) p))

-- ---- annotations and lines

-- a confidence, whose 0 may have been left out
said_confidence : (x : Opt Confidence) → Longer 1 (opt_text confidence_text (opt_map in_full (opt_map meant_decimal x))) (opt_text confidence_text x)
said_confidence silent = record { le = omega arith }
said_confidence (written c) = record { le = full_longer c }

said_annotation : {a : SpelledAnnotation} {b : TableAnnotation} → Says a b → Longer 1 (annotation_text (shortened_annotation b)) (annotation_text a)
said_annotation {a} {b} s =
    let e = s.fields in
    behind (flag_text (bytes "&") b.marked) (flag_text (bytes "&") a.marked) (alike (flag_text (bytes "&")) e.marked)
    (behind (opt_text analyte_text b.analyte) (opt_text analyte_text a.analyte) (alike (opt_text analyte_text) e.analyte)
    (behind (ion_text (ion_map shortened shortened_cut b.ion)) (ion_text a.ion) (said_ion a.ion b.ion e.ion)
    (behind (flat loss_text (map (loss_map shortened) b.losses)) (flat loss_text a.losses) (said_losses a.losses b.losses e.losses)
    (behind (isotopes_text (isotopes_map shortened b.isotopes)) (isotopes_text a.isotopes) (said_isotopes a.isotopes b.isotopes e.isotopes)
    (behind (adduct_text (map (item_map shortened) b.adduct)) (adduct_text a.adduct) (said_adduct a.adduct b.adduct e.adduct)
    (behind (opt_text charge_text b.charge) (opt_text charge_text a.charge) (alike (opt_text charge_text) e.charge)
    (behind (opt_text deviation_text b.deviation) (opt_text deviation_text a.deviation) (alike (opt_text deviation_text) e.deviation)
    (subst (λ (c : Opt Decimal). Longer 1 (opt_text confidence_text (opt_map in_full c)) (opt_text confidence_text a.confidence)) e.confidence
    (said_confidence a.confidence)))))))))

-- each after its comma, and one byte more for each at most
said_more : {s : Spelling} {t : Table} → Each Says s t → Longer (length s) (flat next_text (preferred_spelling t)) (flat next_text s)
said_more none = record { le = omega arith }
said_more (next {a = a} {b = b} x e) =
    both (next_text (shortened_annotation b)) (next_text a) (behind (bytes ",") (bytes ",") as_long (said_annotation x)) (said_more e)

said_line : {s : Spelling} {t : Table} → Each Says s t → Longer (length s) (preferred t) (line_text s)
said_line none = record { le = omega arith }
said_line (next {a = a} {b = b} x e) = both (annotation_text (shortened_annotation b)) (annotation_text a) (said_annotation x) (said_more e)

pub preferred_longer : {s : Spelling} {t : Table} → Each Says s t → length (preferred t) ≤ length (line_text s) + length s
preferred_longer e = (said_line e).le
