-- How long the parts of an annotation are at most, in preferred spelling: numbers, words, texts, formulas, ions, losses, isotopes,
-- adducts. The bounds are not tight. Assumes nothing.
use Prim.Native.Nat.{ℕ, zero, suc, ◌+◌, ◌*◌, ◌^◌, ◌≤◌, ◌<◌}
use mathlib.Core.Path.{◌≡◌, refl, ap}
use mathlib.Core.Bool.{Bool, true, false, ◌&&◌}
use mathlib.Core.List.{List, [], ◌∷◌, ◌++◌, map}
use native.Mathlib.Omega.{arith}
use native.Mathlib.Nat.{mul-suc}
use lib.Dec.{T, eqb, leb, leb→le}
use lib.ListN.{length, get_or, length-append, length-map}
use Rattle.lang.specs.Parts.{Opt, silent, written, opt_text, items, flat, Such, word_of}
use Rattle.lang.specs.Mark.{In, here, later}
use Rattle.lang.proofs.Deriv.{and_0, and_1}
use Rattle.rules.specs.Bytes.{bytes}
use Rattle.rules.specs.Numbers.{digits, From, Number, number_text}
use Rattle.rules.specs.Decimals.{Decimal, whole, last_digits, point_text, decimal_text}
use Rattle.rules.specs.Texts.{braced_text, bracket_text}
use Rattle.rules.specs.Elements.{symbols, Symbol}
use Rattle.rules.specs.Formulas.{written_text, FormulaUnit, plain, labelled, unit_text, unit_map, Formula, formula_text, formula_map}
use Rattle.rules.specs.Ions.{series_names, Series, cleavage_names, Cleavage, series, internal, immonium, precursor, reference, named, composed, smiles, unknown, ion_text, ion_map, TableIon}
use Rattle.rules.specs.Losses.{Sign, minus, plus, sign_text, Lost, lost_formula, lost_name_lem, lost_text, lost_map, Loss, loss_text, loss_map}
use Rattle.rules.specs.Isotopes.{Shift, shift_text, shift_map, Specific, specific_text, specific_map}
use Rattle.rules.specs.Isotopes.{Isotopes, no_isotope, plain_isotope, average_isotope, specific_isotopes, isotopes_text, isotopes_map}
use Rattle.rules.specs.Adducts.{Added, added_formula, electron, added_text, added_map, Item, item_text, adduct_text, item_map}
use Rattle.rules.specs.Preferred.{shortened, count_or1, shortened_cut}
use Rattle.rules.specs.Limits.{max_losses, max_isotopes, max_items, max_units, max_text, max_places, max_digits}
use Rattle.rules.specs.Stored.{Field, value_or0, number, bytes_of, ion_fields, lost_units, lost_name, specific_record, isotope_records, added_units}
use Rattle.rules.specs.Layout.{isotope_widths}
use Rattle.rules.proofs.Bounds.{Small}
use Rattle.rules.proofs.OneRecord.{Fits}
use Rattle.rules.proofs.FitParts.{UnitFits, LossFits, ItemFits}
use Rattle.rules.proofs.FitIons.{IonFits}
use Rattle.numbers.proofs.Bounds.{digits_below}

-- ---- rows

-- a row of texts of at most n bytes each
pub row_short : {A B : Type 0} (text : B → List ℕ) (f : A → B) (n : ℕ) (xs : List A) → ((x : A) → In x xs → length (text (f x)) ≤ n)
    → length (flat text (map f xs)) ≤ n * length xs
row_short text f n [] h = omega arith
row_short text f n (x ∷ xs) h =
    omega (
      arith,
      length-append (text (f x)) (flat text (map f xs)),
      h x here,
      row_short text f n xs (λ y i. h y (later i)),
      mul-suc n (length xs),
    )

in_mapped : {A B : Type 0} (f : A → B) {x : A} {xs : List A} → In x xs → In (f x) (map f xs)
in_mapped f here = here
in_mapped f (later i) = later (in_mapped f i)

-- ---- numbers

-- a number that fits its field of the stored table
pub number_short : (n : ℕ) → n < 65536 → length (digits n) ≤ 5
number_short n h = digits_below 4 n (omega arith)

shortened_short : (n : Number) → n.value < 65536 → length (written_text (shortened n)) ≤ 5
shortened_short n h = by (leb n.value 1)
  where
    by : (t : Bool) → length (written_text (elim t [ true ↦ silent | false ↦ written n ])) ≤ 5
    by true = omega arith
    by false = number_short n.value h

count_short : (c : Opt (From 2)) → count_or1 c < 65536 → length (opt_text number_text c) ≤ 5
count_short silent h = omega arith
count_short (written n) h = number_short n.value h

whole_le : (p v : ℕ) → whole p v ≤ v
unfolding whole
whole_le zero v = omega arith
whole_le (suc p) v = omega (arith, whole_le p v)

last_length : (p v : ℕ) → length (last_digits p v) ≡ p
unfolding last_digits
last_length zero v = refl
last_length (suc p) v = ap suc (last_length p v)

point_length : (p v : ℕ) → length (point_text p v) ≤ p + 1
unfolding point_text
point_length zero v = omega arith
point_length (suc p) v = omega (arith, last_length (suc p) v)

-- 12 digits before the point, the point, 9 behind it
pub decimal_short : (d : Decimal) → d.places ≤ max_places → d.value < 10 ^ max_digits → length (decimal_text d) ≤ 22
decimal_short d h g =
    let w = whole d.places d.value in
    omega (
      arith,
      length-append (digits w) (point_text d.places d.value),
      digits_below 11 w (omega (arith, whole_le d.places d.value)),
      point_length d.places d.value,
    )

-- ---- words, signs, texts

-- at most two letters each
abbrev two_each : List (List ℕ) → Bool
two_each [] = true
two_each (w ∷ ws) = leb (length w) 2 && two_each ws

word_at : (ws : List (List ℕ)) → T (two_each ws) → (i : ℕ) → length (get_or ws i []) ≤ 2
word_at [] t i = omega arith
word_at (w ∷ ws) t zero = leb→le (length w) 2 (and_0 (leb (length w) 2) (two_each ws) t)
word_at (w ∷ ws) t (suc i) = word_at ws (and_1 (leb (length w) 2) (two_each ws) t) i

symbol_short : (s : Symbol) → length (word_of s) ≤ 2
unfolding symbols
symbol_short s = word_at symbols tt s.which

series_short : (s : Series) → length (word_of s) ≤ 2
series_short s = word_at (map bytes series_names) tt s.which

sign_length : (s : Sign) → length (sign_text s) ≡ 1
sign_length minus = refl
sign_length plus = refl

closed_short : (a b : ℕ) (w : List ℕ) → length w ≤ max_text → length (a ∷ (w ++ b ∷ [])) ≤ 257
closed_short a b w h = omega (arith, length-append w (b ∷ []))

braced_short : {f : List ℕ → Bool} (t : Opt (Such f)) → length (bytes_of t) ≤ max_text → length (opt_text braced_text t) ≤ 257
braced_short silent h = omega arith
braced_short (written t) h = closed_short 123 125 t.bytes h

bracket_short : {f : List ℕ → Bool} (t : Opt (Such f)) → length (bytes_of t) ≤ max_text → length (opt_text bracket_text t) ≤ 257
bracket_short silent h = omega arith
bracket_short (written t) h = closed_short 91 93 t.bytes h

-- ---- formulas

unit_short : (u : FormulaUnit Number) → UnitFits u → length (unit_text (unit_map shortened u)) ≤ 14
unit_short (plain s c) h =
    omega (arith, length-append (word_of s) (written_text (shortened c)), symbol_short s, shortened_short c (omega (arith, h)))
unit_short (labelled a s c) h =
    let t = number_text a ++ (word_of s ++ number_text c) in
    omega (
      arith,
      length-append t (93 ∷ []),
      length-append (number_text a) (word_of s ++ number_text c),
      length-append (word_of s) (number_text c),
      symbol_short s,
      number_short a.value (omega (arith, h)),
      number_short c.value (omega (arith, h)),
    )

formula_short : (f : Formula Number) → length (items f) ≤ max_units → ((u : FormulaUnit Number) → In u (items f) → UnitFits u)
    → length (formula_text (formula_map shortened f)) ≤ 168
formula_short f few fit = omega (arith, row_short unit_text (unit_map shortened) 14 (items f) (λ u i. unit_short u (fit u i)))

-- ---- ions

label_short : (n : Opt Number) → value_or0 number n < 65536 → length (opt_text number_text n) ≤ 5
label_short silent h = omega arith
label_short (written n) h = number_short n.value h

-- a cleavage has two letters
letters_short : (c : Cleavage) → length (opt_text word_of (shortened_cut c)) ≤ 2
letters_short c = by (eqb c.which 4)
  where
    two : length (word_of c) ≤ 2
    two = word_at (map bytes cleavage_names) tt c.which

    by : (t : Bool) → length (opt_text (word_of {words = map bytes cleavage_names}) (elim t [ true ↦ silent | false ↦ written c ])) ≤ 2
    by true = omega arith
    by false = two

pub ion_short : (x : TableIon) → IonFits x → Small (ion_fields x).units (ion_fields x).text → length (ion_text (ion_map shortened shortened_cut x)) ≤ 271
ion_short (series s n t) h b =
    let p = h.small.position in
    omega (
      arith,
      length-append (word_of s) (number_text n ++ opt_text braced_text t),
      length-append (number_text n) (opt_text braced_text t),
      series_short s,
      number_short n.value (omega arith),
      braced_short t b.short,
    )
ion_short (internal c m n t) h b =
    let p = h.small.position in
    let q = h.small.end in
    let rest = bytes ":" ++ (number_text n ++ opt_text braced_text t) in
    omega (
      arith,
      length-append (opt_text word_of (shortened_cut c)) (number_text m ++ rest),
      length-append (number_text m) rest,
      letters_short c,
      length-append (number_text n) (opt_text braced_text t),
      number_short m.value (omega arith),
      number_short n.value (omega arith),
      braced_short t b.short,
    )
ion_short (immonium a m) h b = omega (arith, bracket_short m b.short)
ion_short precursor h b = omega arith
ion_short (reference n) h b = omega (arith, closed_short 91 93 n.bytes b.short)
ion_short (named t) h b = omega (arith, closed_short 123 125 t.bytes b.short)
ion_short (composed f) h b =
    omega (arith, length-append (formula_text (formula_map shortened f)) (bytes "}"), formula_short f b.few h.units)
ion_short (smiles t) h b = omega (arith, closed_short 123 125 t.bytes b.short)
ion_short (unknown n) h b = let p = h.small.position in omega (arith, label_short n (omega arith))

-- ---- losses

lost_short : (x : Lost Number) → Small (lost_units x) (lost_name x) → ((u : FormulaUnit Number) → In u (lost_units x) → UnitFits u)
    → length (lost_text (lost_map shortened x)) ≤ 257
lost_short (lost_formula f) s fit = omega (arith, formula_short f s.few fit)
lost_short (lost_name_lem n) s fit = closed_short 91 93 n.bytes s.short

loss_short : (l : Loss Number) → Small (lost_units l.what) (lost_name l.what) → LossFits l → length (loss_text (loss_map shortened l)) ≤ 263
loss_short l s h =
    let w = lost_text (lost_map shortened l.what) in
    omega (
      arith,
      length-append (sign_text l.sign) (opt_text number_text l.count ++ w),
      length-append (opt_text number_text l.count) w,
      sign_length l.sign,
      count_short l.count (omega (arith, h.self)),
      lost_short l.what s h.units,
    )

pub losses_short : (ls : List (Loss Number)) → length ls ≤ max_losses
    → ((l : Loss Number) → In l ls → Small (lost_units l.what) (lost_name l.what)) → ((l : Loss Number) → In l ls → LossFits l)
    → length (flat loss_text (map (loss_map shortened) ls)) ≤ 2104
losses_short ls few small fit = omega (arith, row_short loss_text (loss_map shortened) 263 ls (λ l i. loss_short l (small l i) (fit l i)))

-- ---- isotopes

shift_short : (x : Shift Number) → x.count.value < 65536 → length (shift_text (shift_map shortened x)) ≤ 7
shift_short x h =
    let n = written_text (shortened x.count) in
    omega (
      arith,
      length-append (sign_text x.sign) (n ++ bytes "i"),
      length-append n (bytes "i"),
      sign_length x.sign,
      shortened_short x.count h,
    )

specific_short : (x : Specific Number) → Fits isotope_widths (specific_record x) → length (specific_text (specific_map shortened x)) ≤ 14
specific_short x h =
    let s = shift_text (shift_map shortened x.shift) in
    omega (
      arith,
      length-append s (number_text x.nucleons ++ word_of x.symbol),
      length-append (number_text x.nucleons) (word_of x.symbol),
      shift_short x.shift (omega (arith, h)),
      number_short x.nucleons.value (omega (arith, h)),
      symbol_short x.symbol,
    )

pub isotopes_short : (x : Isotopes Number) → length (isotope_records x) ≤ max_isotopes
    → ((fs : List Field) → In fs (isotope_records x) → Fits isotope_widths fs) → length (isotopes_text (isotopes_map shortened x)) ≤ 56
isotopes_short no_isotope few fit = omega arith
isotopes_short (plain_isotope x) few fit = omega (arith, shift_short x (omega (arith, fit _ here)))
isotopes_short (average_isotope x) few fit =
    omega (arith, length-append (shift_text (shift_map shortened x)) (bytes "A"), shift_short x (omega (arith, fit _ here)))
isotopes_short (specific_isotopes xs) few fit =
    omega (
      arith,
      row_short specific_text (specific_map shortened) 14 (items xs) (λ x i. specific_short x (fit _ (in_mapped specific_record i))),
      length-map xs.more specific_record,
    )

-- ---- adducts

added_short : (x : Added Number) → length (added_units x) ≤ max_units → ((u : FormulaUnit Number) → In u (added_units x) → UnitFits u)
    → length (added_text (added_map shortened x)) ≤ 168
added_short (added_formula f) few fit = formula_short f few fit
added_short electron few fit = omega arith

item_short : (x : Item Number) → length (added_units x.what) ≤ max_units → ItemFits x → length (item_text (item_map shortened x)) ≤ 174
item_short x few h =
    let n = written_text (shortened x.count) in
    let w = added_text (added_map shortened x.what) in
    omega (
      arith,
      length-append (sign_text x.sign) (n ++ w),
      length-append n w,
      sign_length x.sign,
      shortened_short x.count (omega (arith, h.self)),
      added_short x.what few h.units,
    )

pub adduct_short : (xs : List (Item Number)) → length xs ≤ max_items
    → ((x : Item Number) → In x xs → length (added_units x.what) ≤ max_units) → ((x : Item Number) → In x xs → ItemFits x)
    → length (adduct_text (map (item_map shortened) xs)) ≤ 699
adduct_short [] few small fit = omega arith
adduct_short (x ∷ xs) few small fit =
    omega (
      arith,
      length-append (flat item_text (map (item_map shortened) (x ∷ xs))) (bytes "]"),
      row_short item_text (item_map shortened) 174 (x ∷ xs) (λ y i. item_short y (small y i) (fit y i)),
    )
