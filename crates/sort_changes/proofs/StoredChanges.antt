-- What is stored of losses and of adduct items that are spelled: theirs is the preferred order. Assumes nothing.
use Prim.Native.Nat.{ℕ, ◌+◌}
use mathlib.Core.Path.{◌≡◌, refl, ap₂, ◌∙◌}
use mathlib.Core.List.{List, [], ◌∷◌, ◌++◌, map}
use native.Mathlib.Omega.{arith}
use lib.ListN.{length, length-map}
use Rattle.lang.specs.Parts.{Opt, silent, written, items, flat}
use Rattle.rules.specs.Numbers.{From, Number}
use Rattle.rules.specs.Formulas.{Written, unit_map, Formula}
use Rattle.rules.specs.Losses.{Lost, lost_formula, lost_name_lem, lost_text, lost_map, Loss, loss_text, loss_map}
use Rattle.rules.specs.Adducts.{Added, added_formula, electron, added_text, added_map, Item, item_text, item_map}
use Rattle.rules.specs.Preferred.{sign_rank, key, count_or1, shortened, loss_key, item_key, loss_le, item_le}
use Rattle.rules.specs.Fields.{filled}
use Rattle.rules.specs.Stored.{u8, u16, stores, lost_kind, lost_units, lost_name, loss_record, added_kind, added_units, item_record}
use Rattle.rules.specs.Layout.{loss_section, item_section, text_section}
use Rattle.changes.specs.Contents.{content_number, content_size}
use Rattle.store_sections.specs.Pages.{bytes_of}
use Rattle.read_changes.proofs.Spelled.{what_content, of_lost, of_loss, loss_text_lem, of_added, of_item, item_text_lem}
use Rattle.read_changes.proofs.Sums.{EndsChanges}
use Rattle.sort_changes.specs.Events.{change_events}
use Rattle.sort_changes.proofs.SlotHolds.{what_units, what_key, count_value, change_key, change_record}
use Rattle.sort_changes.proofs.Sections.{what_name}
use Rattle.sort_changes.proofs.Rows.{row_stored}
pub use Rattle.sort_changes.proofs.SlotHolds.{ChangeFits}
pub use Rattle.sort_changes.proofs.SlotsInserted.{RowFits}
pub use Rattle.sort_changes.proofs.Rows.{StoredRow}

-- a formula has as many units with each count filled in
same_units : (x : Formula Written) → length (items x) ≡ length (items (record { first = unit_map filled x.first; more = map (unit_map filled) x.more }))
same_units x = omega (arith, length-map x.more (unit_map filled))

-- ---- losses

pub lost_key : (w : Lost Written) → what_key (of_lost w) ≡ lost_text (lost_map shortened (lost_map filled w))
lost_key (lost_formula x) = refl
lost_key (lost_name_lem n) = refl

lost_kind_lem : (w : Lost Written) → content_number (what_content (of_lost w)) ≡ lost_kind (lost_map filled w)
lost_kind_lem (lost_formula x) = refl
lost_kind_lem (lost_name_lem n) = refl

lost_size : (w : Lost Written) → content_size (what_content (of_lost w)) ≡ length (lost_units (lost_map filled w)) + length (lost_name (lost_map filled w))
lost_size (lost_formula x) = omega (arith, same_units x)
lost_size (lost_name_lem n) = omega arith

lost_units_lem : (w : Lost Written) → map (unit_map filled) (what_units (of_lost w)) ≡ lost_units (lost_map filled w)
lost_units_lem (lost_formula x) = refl
lost_units_lem (lost_name_lem n) = refl

lost_name_is : (w : Lost Written) → what_name (of_lost w) ≡ lost_name (lost_map filled w)
lost_name_is (lost_formula x) = refl
lost_name_is (lost_name_lem n) = refl

pub loss_count : (c : Opt (From 2)) → count_value c ≡ count_or1 c
loss_count silent = refl
loss_count (written n) = refl

pub loss_key_lem : (l : Loss Written) → change_key (of_loss l) ≡ loss_key (loss_map filled l)
loss_key_lem l = ap₂ (λ (t : List ℕ) (n : ℕ). key t l.sign n) (lost_key l.what) (loss_count l.count)

loss_record_lem : (l : Loss Written) → stores (change_record (of_loss l)) ≡ stores (loss_record (loss_map filled l))
loss_record_lem l =
    let k = lost_kind_lem l.what in
    let c = loss_count l.count in
    let z = lost_size l.what in
    λ i. stores (u8 (sign_rank l.sign) ∷ u8 (k i) ∷ u16 (c i) ∷ u16 (z i) ∷ [])

-- no more than there may be losses, whose numbers are read as they are, each with a preferred text no longer than a name in its brackets
abbrev pub LossesFit : List (Loss Written) → Type 0
LossesFit xs = RowFits (map of_loss xs)

-- the bytes s begin with the losses bs of a table, in any order, and they are stored
abbrev pub LossesStored : List (Loss Number) → List ℕ → ℕ → Type 0
LossesStored bs s n = StoredRow loss_le loss_record (λ l. lost_units l.what) (λ l. lost_name l.what) loss_section bs s n

pub losses_stored : (xs : List (Loss Written)) (k : List ℕ) → EndsChanges k → LossesFit xs
    → LossesStored (map (loss_map filled) xs) (flat loss_text xs ++ k) (length (flat loss_text xs))
losses_stored xs k e h =
    row_stored of_loss (loss_map filled) loss_key loss_key_lem loss_section (omega arith) loss_record (λ (l : Loss Number). lost_units l.what) (λ (l : Loss Number). lost_name l.what)
    loss_record_lem (λ l. lost_units_lem l.what) (λ l. lost_name_is l.what) loss_text loss_text_lem xs k e h

-- ---- adduct items

pub added_key : (w : Added Written) → what_key (of_added w) ≡ added_text (added_map shortened (added_map filled w))
added_key (added_formula x) = refl
added_key electron = refl

added_kind_lem : (w : Added Written) → content_number (what_content (of_added w)) ≡ added_kind (added_map filled w)
added_kind_lem (added_formula x) = refl
added_kind_lem electron = refl

added_size : (w : Added Written) → content_size (what_content (of_added w)) ≡ length (added_units (added_map filled w))
added_size (added_formula x) = same_units x
added_size electron = refl

added_units_lem : (w : Added Written) → map (unit_map filled) (what_units (of_added w)) ≡ added_units (added_map filled w)
added_units_lem (added_formula x) = refl
added_units_lem electron = refl

added_no_name : (w : Added Written) → what_name (of_added w) ≡ []
added_no_name (added_formula x) = refl
added_no_name electron = refl

pub item_count : (c : Written) → count_value c ≡ (filled c).value
item_count silent = refl
item_count (written n) = refl

pub item_key_lem : (x : Item Written) → change_key (of_item x) ≡ item_key (item_map filled x)
item_key_lem x = ap₂ (λ (t : List ℕ) (n : ℕ). key t x.sign n) (added_key x.what) (item_count x.count)

item_record_lem : (x : Item Written) → stores (change_record (of_item x)) ≡ stores (item_record (item_map filled x))
item_record_lem x =
    let k = added_kind_lem x.what in
    let c = item_count x.count in
    let z = added_size x.what in
    λ i. stores (u8 (sign_rank x.sign) ∷ u8 (k i) ∷ u16 (c i) ∷ u16 (z i) ∷ [])

abbrev pub ItemsFit : List (Item Written) → Type 0
ItemsFit xs = RowFits (map of_item xs)

abbrev pub ItemsStored : List (Item Number) → List ℕ → ℕ → Type 0
ItemsStored bs s n = StoredRow item_le item_record (λ x. added_units x.what) (λ x. []) item_section bs s n

pub items_stored : (xs : List (Item Written)) (k : List ℕ) → EndsChanges k → ItemsFit xs
    → ItemsStored (map (item_map filled) xs) (flat item_text xs ++ k) (length (flat item_text xs))
items_stored xs k e h =
    row_stored of_item (item_map filled) item_key item_key_lem item_section (omega arith) item_record (λ (x : Item Number). added_units x.what) (λ (x : Item Number). [])
    item_record_lem (λ x. added_units_lem x.what) (λ x. added_no_name x.what) item_text item_text_lem xs k e h

flat_none : {B : Type 0} (xs : List B) → flat {B = ℕ} (λ x. []) xs ≡ []
flat_none [] = refl
flat_none (x ∷ xs) = flat_none xs

-- they have no text
pub items_no_text : {bs : List (Item Number)} {s : List ℕ} {n : ℕ} → ItemsStored bs s n → bytes_of text_section (change_events item_section s) ≡ []
items_no_text r = r.text ∙ flat_none r.ls
