-- Slots that stand for the losses and the adduct items of a table. Assumes nothing.
use Rattle.std.specs.Prelude.{ℕ, ◌≡◌, Bool, List, T}
use Rattle.lang.specs.Order.{Perm, rising, Each}
use Rattle.rules.specs.Numbers.{Number}
use Rattle.rules.specs.Losses.{Loss, lost_text, lost_map}
use Rattle.rules.specs.Adducts.{Item, added_text, added_map}
use Rattle.rules.specs.Preferred.{shortened, sign_rank, count_or1}
use Rattle.changes.specs.Signs.{sign_number}
use Rattle.sort_slots.specs.declared.Slot.{Slot}
use Rattle.sort_slots.specs.Slots.{slot_text}

pub record StandsLoss (keys : List ℕ) (x : Slot) (l : Loss Number) : Type 0 where
  pub sign : sign_number x.sign ≡ sign_rank l.sign
  pub count : x.count ≡ count_or1 l.count
  pub text : slot_text keys x ≡ lost_text (lost_map shortened l.what)

pub record StandsItem (keys : List ℕ) (x : Slot) (a : Item Number) : Type 0 where
  pub sign : sign_number x.sign ≡ sign_rank a.sign
  pub count : x.count ≡ a.count.value
  pub text : slot_text keys x ≡ added_text (added_map shortened a.what)

-- what the slots stand for are the members of l in order
pub record Arranged {A : Type 0} (R : Slot → A → Type 0) (before : A → A → Bool) (slots : List Slot) (l : List A) : Type 0 where
  pub list : List A
  pub stand : Each R slots list
  pub same : Perm l list
  pub rise : T (rising before list)
