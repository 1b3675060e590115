-- What is read of losses and of adduct items that are spelled, and how far any go. Assumes nothing.
use Prim.Native.Nat.{ℕ, suc, ◌+◌, ◌-◌, ◌≤◌}
use mathlib.Core.Path.{◌≡◌, refl, ap, ◌∙◌}
use mathlib.Core.Bool.{true, false}
use mathlib.Core.List.{List, [], ◌∷◌, ◌++◌, map}
use native.Mathlib.Omega.{arith}
use lib.ListN.{length, length-map}
use Rattle.std.specs.Prelude.{Option, None}
use Rattle.lang.specs.Re.{Rng, in_c}
use Rattle.lang.specs.Parts.{items, flat}
use Rattle.lang.specs.Walk.{walk}
use Rattle.lang.proofs.Walks.{walk_rest}
use Rattle.rules.specs.Texts.{first_in}
use Rattle.rules.specs.Numbers.{Number}
use Rattle.rules.specs.Formulas.{Written, Formula, unit_map}
use Rattle.rules.specs.Losses.{Lost, lost_formula, lost_name_lem, lost_map, Loss, loss_text, loss_map}
use Rattle.rules.specs.Adducts.{Added, added_formula, electron, added_map, Item, item_text, item_map}
use Rattle.rules.specs.Limits.{max_losses, max_items, row_marks, loss_marks, item_marks}
use Rattle.rules.specs.Fields.{filled}
use Rattle.rules.specs.Stored.{lost_units, lost_name, added_units}
use Rattle.changes.specs.Contents.{content_units, content_bytes}
use Rattle.faults.specs.declared.Refusal.{Refusal}
use Rattle.faults.specs.Faults.{after}
use Rattle.read_formula.proofs.Ends.{EndsFormula}
use Rattle.read_opening.specs.Heads.{begins_change}
use Rattle.read_changes.specs.Rows.{Sums, sums, change_size, count_change, changes_of}
use Rattle.read_changes.proofs.Walks.{held_within}
use Rattle.read_changes.proofs.Measures.{change_long, change_stored}
use Rattle.read_changes.proofs.ChangeLoop.{size_moves}
use Rattle.read_changes.proofs.Spelled.{what_content, of_lost, of_loss, loss_text_lem, loss_marks_lem, of_added, of_item, item_text_lem, item_marks_lem}
use Rattle.read_changes.proofs.Sums.{row_first, row_ends, row_read}
pub use Rattle.read_changes.proofs.Spelled.{Spelled, change_text, change_marks}
pub use Rattle.read_changes.proofs.OneChange.{change_read, change_read_lem}
pub use Rattle.read_changes.proofs.Sums.{EndsChanges}

-- a formula has as many units with each count filled in
same_units : (x : Formula Written) → length (items x) ≡ suc (length (map (unit_map filled) x.more))
same_units x = omega (arith, length-map x.more (unit_map filled))

-- ---- losses

lost_units_lem : (w : Lost Written) → content_units (what_content (of_lost w)) ≡ length (lost_units (lost_map filled w))
lost_units_lem (lost_formula x) = same_units x
lost_units_lem (lost_name_lem n) = refl

lost_names : (w : Lost Written) → content_bytes (what_content (of_lost w)) ≡ length (lost_name (lost_map filled w))
lost_names (lost_formula x) = refl
lost_names (lost_name_lem n) = refl

pub losses_read : (xs : List (Loss Written)) (k : List ℕ) (end : ℕ) (f : Option Refusal) → EndsChanges k → length (flat loss_text xs ++ k) ≤ end
    → changes_of max_losses end (flat loss_text xs ++ k) f
    ≡ record {
      n = length xs;
      units = length (flat (λ l. lost_units l.what) (map (loss_map filled) xs));
      text = length (flat (λ l. lost_name l.what) (map (loss_map filled) xs));
      len = length (flat loss_text xs);
      fault = after f (row_marks loss_text loss_marks 0 xs (end - length (flat loss_text xs ++ k)));
    }
losses_read xs k end f e h =
    row_read of_loss loss_text loss_text_lem max_losses loss_marks loss_marks_lem (loss_map filled) (λ (l : Loss Number). lost_units l.what) (λ (l : Loss Number). lost_name l.what)
    (λ l g. lost_units_lem l.what) (λ l g. lost_names l.what) k e end xs f h

pub losses_begin : (xs : List (Loss Written)) (k : List ℕ) (c : List Rng) → in_c c 43 ≡ false → in_c c 45 ≡ false → first_in c k ≡ false → first_in c (flat loss_text xs ++ k) ≡ false
losses_begin xs k c p q e = row_first of_loss loss_text loss_text_lem xs k c p q e

pub losses_end : (xs : List (Loss Written)) (k : List ℕ) → EndsFormula k → EndsFormula (flat loss_text xs ++ k)
losses_end xs k e = row_ends of_loss loss_text loss_text_lem xs k e

-- ---- adduct items

added_units_lem : (w : Added Written) → content_units (what_content (of_added w)) ≡ length (added_units (added_map filled w))
added_units_lem (added_formula x) = same_units x
added_units_lem electron = refl

added_names : (w : Added Written) → content_bytes (what_content (of_added w)) ≡ 0
added_names (added_formula x) = refl
added_names electron = refl

flat_none : {B : Type 0} (xs : List B) → length (flat {B = ℕ} (λ x. []) xs) ≡ 0
flat_none [] = refl
flat_none (x ∷ xs) = flat_none xs

pub items_read : (xs : List (Item Written)) (k : List ℕ) (end : ℕ) (f : Option Refusal) → EndsChanges k → length (flat item_text xs ++ k) ≤ end
    → changes_of max_items end (flat item_text xs ++ k) f
    ≡ record {
      n = length xs;
      units = length (flat (λ x. added_units x.what) (map (item_map filled) xs));
      text = 0;
      len = length (flat item_text xs);
      fault = after f (row_marks item_text item_marks 0 xs (end - length (flat item_text xs ++ k)));
    }
items_read xs k end f e h =
    row_read of_item item_text item_text_lem max_items item_marks item_marks_lem (item_map filled) (λ (x : Item Number). added_units x.what) (λ (x : Item Number). [])
    (λ x g. added_units_lem x.what) (λ x g. added_names x.what) k e end xs f h
    ∙ ap (λ (t : ℕ).
    record {
      n = length xs;
      units = length (flat (λ x. added_units x.what) (map (item_map filled) xs));
      text = t;
      len = length (flat item_text xs);
      fault = after f (row_marks item_text item_marks 0 xs (end - length (flat item_text xs ++ k)));
    }) (flat_none (map (item_map filled) xs))

pub items_begin : (xs : List (Item Written)) (k : List ℕ) (c : List Rng) → in_c c 43 ≡ false → in_c c 45 ≡ false → first_in c k ≡ false → first_in c (flat item_text xs ++ k) ≡ false
items_begin xs k c p q e = row_first of_item item_text item_text_lem xs k c p q e

pub items_end : (xs : List (Item Written)) (k : List ℕ) → EndsFormula k → EndsFormula (flat item_text xs ++ k)
items_end xs k e = row_ends of_item item_text item_text_lem xs k e

-- ---- of any text

module _ (bound end : ℕ) (s : List ℕ) (f : Option Refusal) where
  pub changes_within : (changes_of bound end s f).len ≤ length s
  unfolding changes_of
  changes_within = omega arith

  -- a quantity that grows by no more than the bytes of each
  grown : (held : Sums → ℕ) → held (sums 0 0 0 f) ≡ 0 → ((a : Sums) (t : List ℕ) → begins_change t ≡ true → (held (count_change bound end a t) ≤ held a + change_size t) × (change_size t ≤ length t))
      → held (walk begins_change change_size (count_change bound end) s (sums 0 0 0 f)).known ≤ length s - length (walk begins_change change_size (count_change bound end) s (sums 0 0 0 f)).rest
  grown held z grows =
      omega (
        arith,
        z,
        held_within begins_change change_size (count_change bound end) held grows s (sums 0 0 0 f),
        walk_rest begins_change change_size (count_change bound end) size_moves s (sums 0 0 0 f),
      )

  pub changes_few : (changes_of bound end s f).n ≤ (changes_of bound end s f).len
  unfolding changes_of count_change
  changes_few = grown (λ (a : Sums). a.n) refl grows
    where
      grows : (a : Sums) (t : List ℕ) → begins_change t ≡ true → ((count_change bound end a t).n ≤ a.n + change_size t) × (change_size t ≤ length t)
      grows a t e = let m = size_moves t e in (omega (arith, m.0), m.1)

  pub changes_units : (changes_of bound end s f).units + (changes_of bound end s f).text ≤ (changes_of bound end s f).len
  unfolding changes_of count_change
  changes_units = grown (λ (a : Sums). a.units + a.text) refl grows
    where
      grows : (a : Sums) (t : List ℕ) → begins_change t ≡ true → ((count_change bound end a t).units + (count_change bound end a t).text ≤ a.units + a.text + change_size t) × (change_size t ≤ length t)
      grows a t e =
          let m = size_moves t e in
          let l = change_long bound a.n end 0 0 0 t a.fault None in
          (omega (arith, l, change_stored bound a.n end t a.fault), m.1)
