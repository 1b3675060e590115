-- What is spelled anew of losses and of adduct items that are spelled: the preferred texts, in preferred order. Assumes nothing.
use Prim.Native.Nat.{ℕ}
use mathlib.Core.Path.{◌≡◌, sym, ap, ap₂, ◌∙◌, subst}
use mathlib.Core.Bool.{Bool, true}
use mathlib.Core.List.{List, [], ◌∷◌, ◌++◌, map, append_assoc, append-nil}
use lib.Dec.{T}
use lib.ListN.{length, drop}
use lib.Seq.{drop-append_seam}
use Rattle.lang.specs.Parts.{flat}
use Rattle.lang.specs.Order.{Perm, same, rising}
use Rattle.rules.specs.Numbers.{Number}
use Rattle.rules.specs.Formulas.{Written}
use Rattle.rules.specs.Losses.{sign_text, Loss, loss_text, loss_map}
use Rattle.rules.specs.Adducts.{Item, item_text, item_map}
use Rattle.rules.specs.Preferred.{shortened, loss_key, item_key, loss_le, item_le}
use Rattle.rules.specs.Fields.{filled}
use Rattle.changes.proofs.Signs.{sign_read}
use Rattle.print_count.specs.Heads.{count_text, head_text}
use Rattle.print_count.proofs.SpelledCount.{count_text_lem, number_text_lem, head_text_lem}
use Rattle.read_formula.proofs.Ends.{EndsFormula}
use Rattle.put_formula.proofs.Chains.{AllOf, all_more, flat_map}
use Rattle.read_opening.specs.Heads.{begins_change}
use Rattle.read_changes.specs.declared.ChangeRead.{ChangeRead}
use Rattle.read_changes.specs.Rows.{change_size}
use Rattle.read_changes.proofs.Spelled.{Spelled, change_text, of_loss, loss_text_lem, of_item, item_text_lem}
use Rattle.read_changes.proofs.Begins.{begins_change_lem}
use Rattle.read_changes.proofs.Sums.{EndsChanges}
use Rattle.sort_slots.proofs.Arranged.{by_key}
use Rattle.sort_changes.specs.Keys.{key_text}
use Rattle.sort_changes.specs.Gathered.{gathered}
use Rattle.sort_changes.specs.Events.{no_keys}
use Rattle.sort_changes.specs.Spelled.{one_spelled, changes_spelled}
use Rattle.sort_changes.proofs.Spells.{spelled_none, spelled_one, spelled_many}
use Rattle.sort_changes.proofs.SlotHolds.{what_key, count_value, change_key, change_spelled, ChangeFits, count_told_lem, here_told, key_told}
use Rattle.sort_changes.proofs.SlotsInserted.{change_size_lem, row_ends, After, RowFits, gathered_fed}
use Rattle.sort_changes.proofs.Rows.{flat_each, texts_of_lem, rowed}
use Rattle.sort_changes.proofs.StoredChanges.{lost_key, loss_count, loss_key_lem, LossesFit, added_key, item_count, item_key_lem, ItemsFit}

-- the bytes `all` begin with bs in some order of reading, and they are spelled anew in preferred order
pub record SpelledRow {B : Type 0} (before : B → B → Bool) (text : B → List ℕ) (bs : List B) (all : List ℕ) (long : ℕ) : Type 0 where
  pub ls : List B
  pub same : Perm bs ls
  pub rise : T (rising before ls)
  pub len : (gathered no_keys all).at ≡ long
  pub spelled : changes_spelled all ≡ flat text ls

-- ---- the first of a row

-- sign, count and what behind them, from left to right
anew_text : {m : ℕ} (x : Spelled m) {c w : List ℕ} → count_text (count_value x.count) ≡ c → what_key x.what ≡ w
    → change_spelled x ≡ sign_text x.sign ++ (c ++ w)
anew_text x {c} {w} p q = ap₂ (λ (a b : List ℕ). a ++ b) (head_text_lem x.sign (count_value x.count) p) q ∙ append_assoc (sign_text x.sign) c w

module _ {m : ℕ} (x : Spelled m) (k : List ℕ) (e : EndsFormula k) where
  -- what stands behind it
  behind_first : begins_change (drop (change_size (change_text x ++ k)) (change_text x ++ k)) ≡ begins_change k
  behind_first =
      ap (λ (n : ℕ). begins_change (drop n (change_text x ++ k))) (change_size_lem x k e) ∙ ap begins_change (drop-append_seam (change_text x) k)

  one_spelled_lem : ChangeFits x → one_spelled (change_text x ++ k) ≡ change_spelled x
  unfolding one_spelled
  one_spelled_lem f =
      let s = change_text x ++ k in
      let h = here_told x k e in
      let c = count_told_lem x.count f.count in
      let t = key_told x k e h.0 f.units in
      ap (λ (p : ChangeRead). head_text p.sign p.count ++ key_text s p) h.1 ∙ (λ i. head_text (sign_read x.sign) (c i) ++ t i)

-- ---- the row

all_first : {A : Type 0} {P : A → Type 0} {x : A} {xs : List A} → AllOf P (x ∷ xs) → P x
all_first (all_more p a) = p

-- things of a type A, spelled so; each means one of a type B, which has a key and a preferred text
module _ {A B : Type 0} {m : ℕ} (of : A → Spelled m) (fill : A → B) (key : B → List ℕ) (key_of : (a : A) → change_key (of a) ≡ key (fill a))
    (anew : B → List ℕ) (anew-of : (a : A) → change_spelled (of a) ≡ anew (fill a)) where
  -- one alone is not looked up among slots: no key is made of it
  ways : (xs : List A) (k : List ℕ) → EndsChanges k → RowFits (map of xs)
      → After 0 (flat change_text (map of xs) ++ k) (gathered no_keys (flat change_text (map of xs) ++ k)) (map of xs) (length (flat change_text (map of xs)))
      → SpelledRow (by_key key) anew (map fill xs) (flat change_text (map of xs) ++ k) (length (flat change_text (map of xs)))
  ways [] k e fits z = record { ls = []; same = same; rise = tt; len = z.at_is; spelled = spelled_none k e.none }
  ways (x ∷ []) k e fits z =
      let y = of x in
      let s = change_text y ++ k in
      record {
        ls = fill x ∷ [];
        same = same;
        rise = tt;
        len = z.at_is;
        spelled =
            ap changes_spelled (append_assoc (change_text y) [] k)
            ∙ spelled_one s (begins_change_lem y k) (behind_first y k e.formula ∙ e.none)
            ∙ one_spelled_lem y k e.formula (all_first fits.each) ∙ anew-of x ∙ sym (append-nil (anew (fill x)));
      }
  ways (x ∷ x' ∷ xs) k e fits z =
      let y = of x in
      let r = flat change_text (map of (x' ∷ xs)) ++ k in
      let s = change_text y ++ r in
      let w = rowed of fill key key_of 0 (x ∷ x' ∷ xs) z in
      let next = of x' in
      let t = append_assoc (change_text y) (flat change_text (map of (x' ∷ xs))) k in
      let more : begins_change r ≡ true =
      ap begins_change (append_assoc (change_text next) (flat change_text (map of xs)) k) ∙ begins_change_lem next (flat change_text (map of xs) ++ k) in
      let o = row_ends (map of (x' ∷ xs)) k e.formula in
      record {
        ls = map fill w.list;
        same = w.same;
        rise = w.rise;
        len = z.at_is;
        spelled =
            spelled_many (flat change_text (map of (x ∷ x' ∷ xs)) ++ k) (ap begins_change t ∙ begins_change_lem y r)
            (ap (λ (l : List ℕ). begins_change (drop (change_size l) l)) t ∙ behind_first y r o ∙ more)
            ∙ w.spelled ∙ flat_each (λ a. change_spelled (of a)) (λ a. anew (fill a)) anew-of w.list ∙ flat_map anew fill w.list;
      }

  -- as their texts are written
  row_spelled : (text : A → List ℕ) → ((a : A) → text a ≡ change_text (of a)) → (xs : List A) (k : List ℕ) → EndsChanges k → RowFits (map of xs)
      → SpelledRow (by_key key) anew (map fill xs) (flat text xs ++ k) (length (flat text xs))
  row_spelled text text_of xs k e fits =
      subst (λ (s : List ℕ). SpelledRow (by_key key) anew (map fill xs) (s ++ k) (length s)) (sym (texts_of_lem of text text_of xs))
      (ways xs k e fits (gathered_fed 0 (map of xs) k e fits))

-- ---- losses

loss_anew : (l : Loss Written) → change_spelled (of_loss l) ≡ loss_text (loss_map shortened (loss_map filled l))
loss_anew l = anew_text (of_loss l) (ap count_text (loss_count l.count) ∙ count_text_lem l.count) (lost_key l.what)

pub losses_spelled : (xs : List (Loss Written)) (k : List ℕ) → EndsChanges k → LossesFit xs
    → SpelledRow loss_le (λ l. loss_text (loss_map shortened l)) (map (loss_map filled) xs) (flat loss_text xs ++ k) (length (flat loss_text xs))
losses_spelled xs k e h =
    row_spelled of_loss (loss_map filled) loss_key loss_key_lem (λ (l : Loss Number). loss_text (loss_map shortened l)) loss_anew loss_text loss_text_lem xs k e h

-- ---- adduct items

item_anew : (x : Item Written) → change_spelled (of_item x) ≡ item_text (item_map shortened (item_map filled x))
item_anew x = anew_text (of_item x) (ap count_text (item_count x.count) ∙ number_text_lem (filled x.count)) (added_key x.what)

pub items_spelled : (xs : List (Item Written)) (k : List ℕ) → EndsChanges k → ItemsFit xs
    → SpelledRow item_le (λ x. item_text (item_map shortened x)) (map (item_map filled) xs) (flat item_text xs ++ k) (length (flat item_text xs))
items_spelled xs k e h =
    row_spelled of_item (item_map filled) item_key item_key_lem (λ (x : Item Number). item_text (item_map shortened x)) item_anew item_text item_text_lem xs k e h
