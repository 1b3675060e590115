-- The limits keep each number of a unit, a loss, an isotope and an adduct item within its field of the stored table. Assumes nothing.
use Prim.Native.Nat.{ℕ, ◌≤◌, ◌<◌}
use mathlib.Core.List.{List, [], ◌∷◌}
use native.Mathlib.Omega.{arith}
use lib.Dec.{ltb→lt}
use lib.ListN.{length}
use Rattle.lang.specs.Parts.{Opt, silent, written, items, some_map, word_of}
use Rattle.lang.specs.Mark.{In, here, later, Kept}
use Rattle.rules.specs.Bytes.{bytes}
use Rattle.rules.specs.Numbers.{From, Number}
use Rattle.rules.specs.Elements.{symbols, Symbol}
use Rattle.rules.specs.Formulas.{Written, FormulaUnit, plain, labelled, unit_text, unit_map, Formula, formula_map}
use Rattle.rules.specs.Losses.{Sign, minus, plus, sign_text, Lost, lost_formula, lost_name_lem, lost_map, Loss, loss_map}
use Rattle.rules.specs.Isotopes.{Shift, shift_text, Specific, specific_text, specific_map, Isotopes, no_isotope, plain_isotope, average_isotope, specific_isotopes, isotopes_map}
use Rattle.rules.specs.Adducts.{Added, added_formula, electron, added_map, Item, item_map}
use Rattle.rules.specs.Fields.{filled}
use Rattle.rules.specs.Limits.{max_count, bare, part, opt_part, number_part, unit_marks, formula_part, lost_part, loss_parts, loss_marks, shift_marks, specific_marks, isotopes_marks, added_part, item_parts, item_marks}
use Rattle.rules.specs.Preferred.{sign_rank, count_or1}
use Rattle.rules.specs.Stored.{Field, unit_record, lost_kind, lost_units, loss_record, specific_record, isotope_records, added_kind, added_units, item_record}
use Rattle.rules.specs.Layout.{unit_widths, loss_widths, isotope_widths, item_widths}
use Rattle.rules.proofs.Totals.{in_none, in_cons, in_map}
use Rattle.rules.proofs.Keeps.{kept_tail, kept_part, not_past, row_each}
use Rattle.rules.proofs.Bounds.{loss_small, item_few}
use Rattle.rules.proofs.OneRecord.{Fits}

-- ---- numbers

pub number_within : {m : ℕ} (bound : ℕ) (n : From m) (at : ℕ) → Kept ((number_part bound n).marks at) → n.value ≤ bound
number_within bound n at k = not_past bound n.value (λ b. k _ here b)

pub filled_within : (c : Written) (at : ℕ) → Kept ((opt_part (number_part max_count) c).marks at) → (filled c).value ≤ max_count
filled_within silent at k = omega arith
filled_within (written n) at k = number_within max_count n at k

count_within : (c : Opt (From 2)) (at : ℕ) → Kept ((opt_part (number_part max_count) c).marks at) → count_or1 c ≤ max_count
count_within silent at k = omega arith
count_within (written n) at k = number_within max_count n at k

sign_small : (s : Sign) → sign_rank s ≤ 1
sign_small minus = omega arith
sign_small plus = omega arith

symbol_small : (s : Symbol) → s.which < 255
unfolding symbols
symbol_small s = let h = ltb→lt s.which (length symbols) s.known in omega arith

-- ---- units

abbrev pub UnitFits : FormulaUnit Number → Type 0
UnitFits u = Fits unit_widths (unit_record u)

unit_fits : (i : ℕ) (u : FormulaUnit Written) (at : ℕ) → Kept (unit_marks i u at) → UnitFits (unit_map filled u)
unit_fits i (plain s c) at k =
    let count = opt_part (number_part max_count) c in
    let p = kept_part at (bare (word_of s) ∷ count ∷ []) (kept_tail k) count (later here) in
    omega (arith, symbol_small s, filled_within c p.0 p.1)
unit_fits i (labelled a s c) at k =
    let ps = bare (bytes "[") ∷ number_part max_count a ∷ bare (word_of s) ∷ number_part max_count c ∷ [] in
    let p = kept_part at ps (kept_tail k) (number_part max_count a) (later here) in
    let q = kept_part at ps (kept_tail k) (number_part max_count c) (later (later (later here))) in
    omega (arith, symbol_small s, number_within max_count a p.0 p.1, number_within max_count c q.0 q.1)

pub formula_fits : (f : Formula Written) (at : ℕ) → Kept ((formula_part f).marks at)
    → (u : FormulaUnit Number) → In u (items (formula_map filled f)) → UnitFits u
formula_fits f at k =
    in_map (unit_map filled) UnitFits (items f) (λ v j. let c = row_each unit_text unit_marks 0 (items f) at k v j in unit_fits c.0 v c.1 c.2)

-- ---- losses

pub record LossFits (l : Loss Number) : Type 0 where
  pub self : Fits loss_widths (loss_record l)
  pub units : (u : FormulaUnit Number) → In u (lost_units l.what) → UnitFits u

lost_kind_small : (x : Lost Number) → lost_kind x ≤ 1
lost_kind_small (lost_formula f) = omega arith
lost_kind_small (lost_name_lem n) = omega arith

lost_fits : (x : Lost Written) (at : ℕ) → Kept ((lost_part x).marks at) → (u : FormulaUnit Number) → In u (lost_units (lost_map filled x)) → UnitFits u
lost_fits (lost_formula f) at k = formula_fits f at k
lost_fits (lost_name_lem n) at k = λ u i. absurd (in_none i)

pub loss_fits : (i : ℕ) (l : Loss Written) (at : ℕ) → Kept (loss_marks i l at) → LossFits (loss_map filled l)
loss_fits i l at k =
    let small = loss_small i l at k in
    let p = kept_part at (loss_parts l) (kept_tail k) (opt_part (number_part max_count) l.count) (later here) in
    let q = kept_part at (loss_parts l) (kept_tail k) (lost_part l.what) (later (later here)) in
    record {
      self = omega (arith, sign_small l.sign, lost_kind_small (lost_map filled l.what), count_within l.count p.0 p.1, small.few, small.short);
      units = lost_fits l.what q.0 q.1;
    }

-- ---- isotopes

shift_within : (x : Shift Written) (at : ℕ) → Kept (shift_marks x at) → (filled x.count).value ≤ max_count
shift_within x at k =
    let count = opt_part (number_part max_count) x.count in
    let p = kept_part at (bare (sign_text x.sign) ∷ count ∷ []) k count (later here) in
    filled_within x.count p.0 p.1

specific_fits : (i : ℕ) (x : Specific Written) (at : ℕ) → Kept (specific_marks i x at) → Fits isotope_widths (specific_record (specific_map filled x))
specific_fits i x at k =
    let shift = part (shift_text x.shift) (shift_marks x.shift) in
    let ps = shift ∷ number_part max_count x.nucleons ∷ [] in
    let p = kept_part at ps (kept_tail k) shift here in
    let q = kept_part at ps (kept_tail k) (number_part max_count x.nucleons) (later here) in
    omega (
      arith,
      sign_small x.shift.sign,
      shift_within x.shift p.0 p.1,
      number_within max_count x.nucleons q.0 q.1,
      symbol_small x.symbol,
    )

pub isotopes_fit : (x : Isotopes Written) (at : ℕ) → Kept (isotopes_marks x at)
    → (fs : List Field) → In fs (isotope_records (isotopes_map filled x)) → Fits isotope_widths fs
isotopes_fit no_isotope at k = λ fs i. absurd (in_none i)
isotopes_fit (plain_isotope x) at k =
    in_cons (Fits isotope_widths) (omega (arith, sign_small x.sign, shift_within x at k)) (λ fs i. absurd (in_none i))
isotopes_fit (average_isotope x) at k =
    in_cons (Fits isotope_widths) (omega (arith, sign_small x.sign, shift_within x at k)) (λ fs i. absurd (in_none i))
isotopes_fit (specific_isotopes xs) at k =
    let each = row_each specific_text specific_marks 0 (items xs) at k in
    in_map specific_record (Fits isotope_widths) (items (some_map (specific_map filled) xs))
    (in_map (specific_map filled) (λ x. Fits isotope_widths (specific_record x)) (items xs)
    (λ x j. specific_fits (each x j).0 x (each x j).1 (each x j).2))

-- ---- adduct items

pub record ItemFits (x : Item Number) : Type 0 where
  pub self : Fits item_widths (item_record x)
  pub units : (u : FormulaUnit Number) → In u (added_units x.what) → UnitFits u

added_kind_small : (x : Added Number) → added_kind x ≤ 2
added_kind_small (added_formula f) = omega arith
added_kind_small electron = omega arith

added_fits : (x : Added Written) (at : ℕ) → Kept ((added_part x).marks at) → (u : FormulaUnit Number) → In u (added_units (added_map filled x)) → UnitFits u
added_fits (added_formula f) at k = formula_fits f at k
added_fits electron at k = λ u i. absurd (in_none i)

pub item_fits : (i : ℕ) (x : Item Written) (at : ℕ) → Kept (item_marks i x at) → ItemFits (item_map filled x)
item_fits i x at k =
    let p = kept_part at (item_parts x) (kept_tail k) (opt_part (number_part max_count) x.count) (later here) in
    let q = kept_part at (item_parts x) (kept_tail k) (added_part x.what) (later (later here)) in
    record {
      self = omega (arith, sign_small x.sign, added_kind_small (added_map filled x.what), filled_within x.count p.0 p.1, item_few i x at k);
      units = added_fits x.what q.0 q.1;
    }
