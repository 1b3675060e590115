-- Losses, and adduct items, within the limits have room in the slots and in the buffer of keys. Assumes nothing.
use Prim.Native.Nat.{ℕ, ◌+◌, ◌*◌, ◌/◌, ◌≤◌, ◌<◌}
use mathlib.Core.Path.{◌≡◌, ap, subst}
use mathlib.Core.Bool.{Bool, true, false, cond}
use mathlib.Core.List.{List, [], ◌∷◌, ◌++◌, map}
use native.Mathlib.Omega.{arith}
use native.Mathlib.Decide.{dec_lt}
use lib.Dec.{leb, eqb}
use lib.ListN.{length, length-append, length-map}
use Rattle.lang.specs.Parts.{Opt, silent, written, items, flat, word_of}
use Rattle.lang.specs.Mark.{Mark, In, here, later, Kept}
use Rattle.rules.specs.Bytes.{bytes}
use Rattle.rules.specs.Numbers.{digits, From, Number, number_text}
use Rattle.rules.specs.Elements.{Symbol}
use Rattle.rules.specs.Formulas.{Written, written_text, FormulaUnit, plain, labelled, unit_text, unit_map}
use Rattle.rules.specs.Losses.{sign_text, Loss, loss_text}
use Rattle.rules.specs.Adducts.{Item, item_text}
use Rattle.rules.specs.Preferred.{shortened}
use Rattle.rules.specs.Fields.{filled}
use Rattle.rules.specs.Limits.{max_losses, max_items, max_units, max_text, max_count, bare, opt_part, number_part, row_marks, unit_marks, loss_marks, item_marks}
use Rattle.rules.proofs.Digits.{digits_small}
use Rattle.rules.proofs.Keeps.{kept_tail, kept_part, not_past, not_many, row_each, row_few}
use Rattle.rules.proofs.FitParts.{number_within, filled_within}
use Rattle.elements.specs.Numbers.{spelled}
use Rattle.elements.proofs.SymbolsAgree.{word_symbol}
use Rattle.put_formula.proofs.Chains.{AllOf, all_none, all_more}
use Rattle.put_formula.proofs.PutUnits.{UnitTold}
use Rattle.read_changes.proofs.Spelled.{What, a_formula, a_name, an_electron, what_part, Spelled, change_marks, of_loss, loss_marks_lem, of_item, item_marks_lem}
use Rattle.rules.proofs.Bounds.{unit_counted}
use Rattle.numbers.proofs.Bounds.{more_digits}
use Rattle.sort_changes.proofs.SlotHolds.{what_units, what_key, count_value, ChangeFits}
use Rattle.sort_changes.proofs.SlotsInserted.{RowFits}
use Rattle.sort_changes.proofs.StoredChanges.{LossesFit, ItemsFit}

-- ---- how long numbers, symbols and units are

digits_two : (n : ℕ) → n < 100 → length (digits n) ≤ 2
digits_two n h = by (dec_lt n 10)
  where
    by : Dec (n < 10) → length (digits n) ≤ 2
    by (yes l) = omega (arith, ap length (digits_small n l))
    by (no l) = omega (arith, more_digits n (omega arith), ap length (digits_small (n / 10) (omega arith)))

digits_three : (n : ℕ) → n ≤ max_count → length (digits n) ≤ 3
digits_three n h = by (dec_lt n 10)
  where
    by : Dec (n < 10) → length (digits n) ≤ 3
    by (yes l) = omega (arith, ap length (digits_small n l))
    by (no l) = omega (arith, more_digits n (omega arith), digits_two (n / 10) (omega arith))

symbol_short : (s : Symbol) → length (word_of s) ≤ 2
symbol_short s = subst (λ (w : List ℕ). length w ≤ 2) (word_symbol s) (by (spelled (word_of s)).first (spelled (word_of s)).second (eqb (spelled (word_of s)).second 0))
  where
    by : (a b : ℕ) (t : Bool) → length (cond t (a ∷ []) (a ∷ (b ∷ []))) ≤ 2
    by a b true = omega arith
    by a b false = omega arith

shortened_long : (n : Number) → n.value ≤ max_count → length (written_text (shortened n)) ≤ 3
shortened_long n h = by (leb n.value 1)
  where
    by : (t : Bool) → length (written_text (elim t [ true ↦ silent | false ↦ written n ])) ≤ 3
    by true = omega arith
    by false = digits_three n.value h

-- ---- units

-- the numbers of a unit are read as they are, and its preferred text is short
record UnitShort (u : FormulaUnit Written) : Type 0 where
  units : UnitTold u
  short : length (unit_text (unit_map shortened (unit_map filled u))) ≤ 10

unit_short : (i : ℕ) (u : FormulaUnit Written) (at : ℕ) → Kept (unit_marks i u at) → UnitShort u
unit_short i (plain s c) at k =
    let count = opt_part (number_part max_count) c in
    let p = kept_part at (bare (word_of s) ∷ count ∷ []) (kept_tail k) count (later here) in
    let h = filled_within c p.0 p.1 in
    record {
      units = omega arith;
      short = omega (arith, length-append (word_of s) (written_text (shortened (filled c))), symbol_short s, shortened_long (filled c) h);
    }
unit_short i (labelled a s c) at k =
    let ps = bare (bytes "[") ∷ number_part max_count a ∷ bare (word_of s) ∷ number_part max_count c ∷ [] in
    let p = kept_part at ps (kept_tail k) (number_part max_count a) (later here) in
    let q = kept_part at ps (kept_tail k) (number_part max_count c) (later (later (later here))) in
    let x = number_within max_count a p.0 p.1 in
    let y = number_within max_count c q.0 q.1 in
    let t = number_text a ++ (word_of s ++ number_text c) in
    record {
      units = (omega arith, omega arith);
      short =
          omega (
            arith,
            length-append t (93 ∷ []),
            length-append (number_text a) (word_of s ++ number_text c),
            length-append (word_of s) (number_text c),
            symbol_short s,
            digits_three a.value x,
            digits_three c.value y,
          );
    }

-- ---- lists

all_in : {A : Type 0} (P : A → Type 0) (xs : List A) → ((x : A) → In x xs → P x) → AllOf P xs
all_in P [] h = all_none
all_in P (x ∷ xs) h = all_more (h x here) (all_in P xs (λ y i. h y (later i)))

all_map : {A B : Type 0} (f : A → B) (P : B → Type 0) (xs : List A) → ((x : A) → In x xs → P (f x)) → AllOf P (map f xs)
all_map f P [] h = all_none
all_map f P (x ∷ xs) h = all_more (h x here) (all_map f P xs (λ y i. h y (later i)))

-- units within the limits are read as they are
pub units_told : (us : List (FormulaUnit Written)) (at : ℕ) → Kept (row_marks unit_text unit_marks 0 us at) → AllOf UnitTold us
units_told us at k = all_in UnitTold us (λ u i. let c = row_each unit_text unit_marks 0 us at k u i in (unit_short c.0 u c.1 c.2).units)

units_short : (us : List (FormulaUnit Written)) → ((u : FormulaUnit Written) → In u us → UnitShort u)
    → length (flat unit_text (map (unit_map shortened) (map (unit_map filled) us))) ≤ 10 * length us
units_short [] h = omega arith
units_short (u ∷ us) h =
    let t = unit_text (unit_map shortened (unit_map filled u)) in
    let r = flat unit_text (map (unit_map shortened) (map (unit_map filled) us)) in
    omega (arith, length-append t r, (h u here).short, units_short us (λ v i. h v (later i)))

-- ---- one of a row

record WhatFits (w : What) : Type 0 where
  units : AllOf UnitTold (what_units w)
  short : length (what_key w) ≤ max_text + 2

what_fits : (w : What) (at : ℕ) → Kept ((what_part w).marks at) → WhatFits w
what_fits (a_formula x) at k =
    let each : (u : FormulaUnit Written) → In u (items x) → UnitShort u =
    λ u i. let c = row_each unit_text unit_marks 0 (items x) at k u i in unit_short c.0 u c.1 c.2 in
    record {
      units = all_in UnitTold (items x) (λ u i. (each u i).units);
      short = omega (arith, units_short (items x) each, row_few unit_text unit_marks max_units unit_counted 0 (items x) at k (omega arith));
    }
what_fits (a_name n) at k =
    record { units = all_none; short = omega (arith, length-append n.bytes (93 ∷ []), not_past max_text (length n.bytes) (λ b. k _ here b)) }
what_fits an_electron at k = record { units = all_none; short = omega arith }

count_fits : {m : ℕ} (c : Opt (From m)) (at : ℕ) → Kept ((opt_part (number_part max_count) c).marks at) → count_value c ≤ max_count
count_fits silent at k = omega arith
count_fits (written n) at k = number_within max_count n at k

change_fits : {m : ℕ} (bound i : ℕ) (x : Spelled m) (at : ℕ) → Kept (change_marks bound i x at) → ChangeFits x
change_fits bound i x at k =
    let ps = bare (sign_text x.sign) ∷ opt_part (number_part max_count) x.count ∷ what_part x.what ∷ [] in
    let p = kept_part at ps (kept_tail k) (opt_part (number_part max_count) x.count) (later here) in
    let q = kept_part at ps (kept_tail k) (what_part x.what) (later (later here)) in
    let w = what_fits x.what q.0 q.1 in
    record { count = omega (arith, count_fits x.count p.0 p.1); units = w.units; short = w.short }

-- ---- rows

module _ {A : Type 0} {m : ℕ} (of : A → Spelled m) (text : A → List ℕ) (bound : ℕ) (marks : ℕ → A → ℕ → List Mark)
    (marks-of : (i : ℕ) (x : A) (at : ℕ) → marks i x at ≡ change_marks bound i (of x) at) (few : bound ≤ max_losses) where
  row_counted : (i : ℕ) (x : A) (at : ℕ) → Kept (marks i x at) → i < bound
  row_counted i x at k = not_many bound i at _ (subst (λ (l : List Mark). Kept l) (marks-of i x at) k)

  row_fits : (xs : List A) (at : ℕ) → Kept (row_marks text marks 0 xs at) → RowFits (map of xs)
  row_fits xs at k =
      record {
        few = omega (arith, row_few text marks bound row_counted 0 xs at k (omega arith), length-map xs of);
        each = all_map of ChangeFits xs (λ x i.
            let c = row_each text marks 0 xs at k x i in
            change_fits bound c.0 (of x) c.1 (subst (λ (l : List Mark). Kept l) (marks-of c.0 x c.1) c.2));
      }

-- losses within the limits
pub losses_fit : (xs : List (Loss Written)) (at : ℕ) → Kept (row_marks loss_text loss_marks 0 xs at) → LossesFit xs
losses_fit xs at k = row_fits of_loss loss_text max_losses loss_marks loss_marks_lem (omega arith) xs at k

-- adduct items within the limits
pub items_fit : (xs : List (Item Written)) (at : ℕ) → Kept (row_marks item_text item_marks 0 xs at) → ItemsFit xs
items_fit xs at k = row_fits of_item item_text max_items item_marks item_marks_lem (omega arith) xs at k
