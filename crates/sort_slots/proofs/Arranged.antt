-- Slots in order stand for losses, or adduct items, in preferred order. Assumes nothing.
use Prim.Native.Nat.{ℕ}
use mathlib.Core.Path.{◌≡◌, sym, ap₂, subst}
use mathlib.Core.Bool.{Bool}
use mathlib.Core.List.{List, [], ◌∷◌, ◌++◌, map}
use lib.Dec.{T}
use Rattle.lang.specs.Order.{lex_le, Each}
use Rattle.lang.proofs.Sort.{Order, sorted, sorted_perm, sorted_rising, perm_joined, rising_one}
use Rattle.lang.proofs.Lex.{by_key_lem}
use Rattle.rules.specs.Numbers.{Number}
use Rattle.rules.specs.Losses.{Sign, Loss, lost_text, lost_map}
use Rattle.rules.specs.Adducts.{Item, added_text, added_map}
use Rattle.rules.specs.Preferred.{rank, sign_rank, key, count_or1, shortened, loss_key, item_key, loss_le, item_le}
use Rattle.changes.specs.Signs.{sign_number}
use Rattle.sort_slots.specs.declared.Slot.{Slot}
use Rattle.sort_slots.specs.Slots.{slot_text, slot_key, slot_le, fed_into, feed, Holds}
use Rattle.sort_slots.specs.Stands.{StandsLoss, StandsItem, Arranged}
use Rattle.sort_slots.proofs.Feeds.{fed_perm, fed_rises, fed_both}

-- ---- things with keys

abbrev pub by_key : {A : Type 0} → (A → List ℕ) → A → A → Bool
by_key k a b = lex_le (k a) (k b)

module _ {A : Type 0} (k : A → List ℕ) (keys : List ℕ) (R : Slot → A → Type 0) (same_key : (x : Slot) (a : A) → R x a → slot_key keys x ≡ k a) where
  alike : (x y : Slot) (a b : A) → R x a → R y b → slot_le keys x y ≡ by_key k a b
  unfolding slot_le
  alike x y a b r q = ap₂ lex_le (same_key x a r) (same_key y b q)

  pub fed_arranged : {xs : List Slot} {l : List A} → Each R xs l → Arranged R (by_key k) (feed keys xs) l
  fed_arranged {l = l} e =
      record {
        list = fed_into (by_key k) [] l;
        stand = fed_both R (slot_le keys) (by_key k) alike e;
        same = fed_perm (by_key k) l;
        rise = fed_rises (by_key_lem k) l;
      }

  pub holds_arranged : {xs : List Slot} {s : List Slot} {l : List A} → Holds keys xs s → Each R xs l → Arranged R (by_key k) s l
  holds_arranged {l = l} h e = subst (λ (t : List Slot). Arranged R (by_key k) t l) (sym h.slots) (fed_arranged e)

-- where only equals come each before the other there is one arrangement, the sorted one
pub arranged_sorted : {A : Type 0} {R : Slot → A → Type 0} {before : A → A → Bool} {slots : List Slot} {l : List A} → Order before
    → ((a b : A) → T (before a b) → T (before b a) → a ≡ b) → Arranged R before slots l → Each R slots (sorted before l)
arranged_sorted {R = R} {before = before} {slots = slots} {l = l} o anti r =
    subst (λ t. Each R slots t)
    (rising_one o anti r.rise (sorted_rising o l) (perm_joined r.same (sorted_perm before l))) r.stand

-- ---- losses and adduct items

-- a slot with this text, sign and count has the key that the rules give these
slot_key_lem : (keys : List ℕ) (x : Slot) (t : List ℕ) (g : Sign) (n : ℕ) → slot_text keys x ≡ t → sign_number x.sign ≡ sign_rank g → x.count ≡ n → slot_key keys x ≡ key t g n
slot_key_lem keys x t g n e f h = λ i. map rank (e i) ++ (0 ∷ f i ∷ h i ∷ [])

pub loss_key_lem : (keys : List ℕ) (x : Slot) (l : Loss Number) → StandsLoss keys x l → slot_key keys x ≡ loss_key l
loss_key_lem keys x l t = slot_key_lem keys x (lost_text (lost_map shortened l.what)) l.sign (count_or1 l.count) t.text t.sign t.count

pub item_key_lem : (keys : List ℕ) (x : Slot) (a : Item Number) → StandsItem keys x a → slot_key keys x ≡ item_key a
item_key_lem keys x a t = slot_key_lem keys x (added_text (added_map shortened a.what)) a.sign a.count.value t.text t.sign t.count

pub losses_arranged : {keys : List ℕ} {xs : List Slot} {s : List Slot} {l : List (Loss Number)} → Holds keys xs s → Each (StandsLoss keys) xs l
    → Arranged (StandsLoss keys) loss_le s l
losses_arranged {keys} h e = holds_arranged loss_key keys (StandsLoss keys) (loss_key_lem keys) h e

pub items_arranged : {keys : List ℕ} {xs : List Slot} {s : List Slot} {l : List (Item Number)} → Holds keys xs s → Each (StandsItem keys) xs l
    → Arranged (StandsItem keys) item_le s l
items_arranged {keys} h e = holds_arranged item_key keys (StandsItem keys) (item_key_lem keys) h e
