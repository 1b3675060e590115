-- What is printed of losses, and of adduct items, that are stored. Assumes nothing.
use Prim.Native.Nat.{ℕ, ◌+◌, ◌≤◌}
use mathlib.Core.Path.{◌≡◌, refl, subst, ◌∙◌}
use mathlib.Core.List.{List, [], ◌∷◌, ◌++◌, map}
use native.Mathlib.Omega.{arith}
use lib.ListN.{length}
use Rattle.lang.specs.Parts.{flat, items}
use Rattle.lang.specs.Mark.{In}
use Rattle.rules.specs.Numbers.{Number}
use Rattle.rules.specs.Formulas.{FormulaUnit}
use Rattle.rules.specs.Losses.{Sign, sign_text, Lost, lost_formula, lost_name_lem, lost_map, lost_text, Loss, loss_text, loss_map}
use Rattle.rules.specs.Adducts.{Added, added_formula, electron, added_map, added_text, Item, item_text, item_map}
use Rattle.rules.specs.Preferred.{shortened, sign_rank, count_or1}
use Rattle.rules.specs.Stored.{stores, lost_kind, lost_units, lost_name, loss_record, added_kind, added_units, item_record}
use Rattle.rules.specs.Limits.{max_units, max_text}
use Rattle.put_formula.proofs.Chains.{flat_map}
use Rattle.put_formula.proofs.PutUnits.{UnitUpTo}
use Rattle.print_count.specs.Heads.{count_text}
use Rattle.print_count.proofs.SpelledCount.{count_text_lem, number_text_lem}
use Rattle.print_parts.proofs.Rows.{all_in, unit_rows, Tells, change_record, formula_told, name_told, electron_told, Printed, changes_printed_lem}

-- numbers, units and name fit the fields of the record
pub record LossOk (l : Loss Number) : Type 0 where
  pub count : count_or1 l.count ≤ 65535
  pub few : length (lost_units l.what) ≤ max_units
  pub units : (u : FormulaUnit Number) → In u (lost_units l.what) → UnitUpTo 65535 u
  pub name : length (lost_name l.what) ≤ max_text

pub record ItemOk (x : Item Number) : Type 0 where
  pub count : x.count.value ≤ 65535
  pub few : length (added_units x.what) ≤ max_units
  pub units : (u : FormulaUnit Number) → In u (added_units x.what) → UnitUpTo 65535 u

-- ---- one

module _ (sign : Sign) (count : ℕ) (h : count ≤ 65535) (c : List ℕ) (says : count_text count ≡ c) where
  lost_told : (x : Lost Number) → length (lost_units x) ≤ max_units → ((u : FormulaUnit Number) → In u (lost_units x) → UnitUpTo 65535 u) → length (lost_name x) ≤ max_text
      → Tells (stores (change_record (sign_rank sign) (lost_kind x) count (length (lost_units x) + length (lost_name x)))) (lost_units x) (lost_name x)
      (sign_text sign ++ (c ++ lost_text (lost_map shortened x)))
  lost_told (lost_formula f) few units short = formula_told sign count h c says (items f) (length (items f) + 0) (omega arith) few (all_in (items f) units)
  lost_told (lost_name_lem n) few units short = name_told sign count h c says n.bytes (0 + length n.bytes) (omega arith) short

  added_told : (x : Added Number) → length (added_units x) ≤ max_units → ((u : FormulaUnit Number) → In u (added_units x) → UnitUpTo 65535 u)
      → Tells (stores (change_record (sign_rank sign) (added_kind x) count (length (added_units x)))) (added_units x) []
      (sign_text sign ++ (c ++ added_text (added_map shortened x)))
  added_told (added_formula f) few units = formula_told sign count h c says (items f) (length (items f)) refl few (all_in (items f) units)
  added_told electron few units = electron_told sign count h c says

loss_told : (l : Loss Number) → LossOk l → Tells (stores (loss_record l)) (lost_units l.what) (lost_name l.what) (loss_text (loss_map shortened l))
loss_told l ok = lost_told l.sign (count_or1 l.count) ok.count _ (count_text_lem l.count) l.what ok.few ok.units ok.name

item_told : (x : Item Number) → ItemOk x → Tells (stores (item_record x)) (added_units x.what) [] (item_text (item_map shortened x))
item_told x ok = added_told x.sign x.count.value ok.count _ (number_text_lem x.count) x.what ok.few ok.units

-- ---- in a row

-- the same, with its text said otherwise
printed_as : {n : ℕ} {l u t : List ℕ} {us : List (FormulaUnit Number)} {w a b : List ℕ} → Printed n l u t us w a → a ≡ b → Printed n l u t us w b
printed_as p e = record { texts = p.texts ∙ e; units = p.units; names = p.names }

pub losses_printed : (ls : List (Loss Number)) (kl ku kt : List ℕ) → ((l : Loss Number) → In l ls → LossOk l)
    → Printed (length ls) (flat (λ l. stores (loss_record l)) ls ++ kl) (unit_rows (flat (λ l. lost_units l.what) ls) ++ ku)
    (flat (λ l. lost_name l.what) ls ++ kt) (flat (λ l. lost_units l.what) ls) (flat (λ l. lost_name l.what) ls)
    (flat loss_text (map (loss_map shortened) ls))
losses_printed ls kl ku kt ok =
    printed_as
    (changes_printed_lem (λ l. stores (loss_record l)) (λ l. lost_units l.what) (λ l. lost_name l.what) (λ l. loss_text (loss_map shortened l)) ls kl ku kt
    (λ l i. loss_told l (ok l i)))
    (flat_map loss_text (loss_map shortened) ls)

-- items have no names: t stands as it is
no_names : {A : Type 0} (xs : List A) → flat {B = ℕ} (λ x. []) xs ≡ []
no_names [] = refl
no_names (x ∷ xs) = no_names xs

pub items_printed : (xs : List (Item Number)) (kl ku t : List ℕ) → ((x : Item Number) → In x xs → ItemOk x)
    → Printed (length xs) (flat (λ x. stores (item_record x)) xs ++ kl) (unit_rows (flat (λ x. added_units x.what) xs) ++ ku)
    t (flat (λ x. added_units x.what) xs) [] (flat item_text (map (item_map shortened) xs))
items_printed xs kl ku t ok =
    let p =
    changes_printed_lem (λ x. stores (item_record x)) (λ x. added_units x.what) (λ x. []) (λ x. item_text (item_map shortened x)) xs kl ku t
    (λ x i. item_told x (ok x i)) in
    without (no_names xs) (printed_as p (flat_map item_text (item_map shortened) xs))
  where
    without : {n : ℕ} {l u t : List ℕ} {us : List (FormulaUnit Number)} {w a : List ℕ} → w ≡ [] → Printed n l u (w ++ t) us w a → Printed n l u t us [] a
    without {n} {l} {u} {t} {us} {w} {a} e p = subst (λ (v : List ℕ). Printed n l u (v ++ t) us v a) e p
