-- Bytes behind the texts in use change no slot's text, so no order. Assumes nothing.
use Prim.Native.Nat.{ℕ, zero, suc, ◌+◌, ◌≤◌}
use mathlib.Core.Path.{◌≡◌, refl, sym, ap, ap₂, ◌∙◌}
use mathlib.Core.Bool.{Bool, true, false, true≢false, false≢true}
use mathlib.Core.List.{List, [], ◌∷◌, ◌++◌, map}
use native.Mathlib.Omega.{arith}
use lib.ListN.{length, take, set}
use lib.Seq.{take-take, take-nil, take-append-le, take-set-le, sets}
use Rattle.lang.specs.Order.{lex_le, Each, none, next, insert}
use Rattle.rules.specs.Numbers.{Number}
use Rattle.rules.specs.Losses.{Loss}
use Rattle.rules.specs.Adducts.{Item}
use Rattle.rules.specs.Preferred.{rank}
use Rattle.changes.specs.Signs.{sign_number}
use Rattle.sort_slots.specs.declared.Slot.{Slot}
use Rattle.sort_slots.specs.Slots.{text_at, slot_text, slot_key, slot_le, fed_into, feed, Holds, EndsBy, AllEndBy, none_ends, next_ends}
use Rattle.sort_slots.specs.Stands.{StandsLoss, StandsItem}

-- ---- buffers that have their first bytes in common

pub record Common (used : ℕ) (keys more : List ℕ) : Type 0 where
  pub is : take used keys ≡ take used more

pub common_append : (used : ℕ) (keys more : List ℕ) → used ≤ length keys → Common used keys (keys ++ more)
common_append used keys more h = record { is = sym (take-append-le used keys more h) }

pub common_set : (used : ℕ) (keys : List ℕ) (i b : ℕ) → used ≤ i → Common used keys (set keys i b)
common_set used keys i b h = record { is = sym (take-set-le used keys i b h) }

pub common_sets : (used : ℕ) (keys : List ℕ) (i : ℕ) (bs : List ℕ) → used ≤ i → Common used keys (sets keys i bs)
common_sets used keys i [] h = record { is = refl }
common_sets used keys i (b ∷ bs) h =
    record { is = (common_set used keys i b h).is ∙ (common_sets used (set keys i b) (suc i) bs (omega arith)).is }

-- ---- texts

-- a text that ends by a place is one of the bytes before that place
text_of_front : (l : List ℕ) (key len used : ℕ) → key + len ≤ used → text_at (take used l) key len ≡ text_at l key len
text_of_front l zero len used h = take-take len used l (omega arith)
text_of_front [] (suc key) len used h = ap (λ (s : List ℕ). text_at s (suc key) len) (take-nil used)
text_of_front (b ∷ l) (suc key) len zero h = absurd (omega arith)
text_of_front (b ∷ l) (suc key) len (suc used) h = text_of_front l key len used (omega arith)

module _ {used : ℕ} {keys more : List ℕ} (c : Common used keys more) where
  pub text_kept : (x : Slot) → EndsBy used x → slot_text keys x ≡ slot_text more x
  text_kept x h =
      sym (text_of_front keys x.key x.len used h.inside) ∙ ap (λ (l : List ℕ). text_at l x.key x.len) c.is
      ∙ text_of_front more x.key x.len used h.inside

  pub key_kept : (x : Slot) → EndsBy used x → slot_key keys x ≡ slot_key more x
  key_kept x h = ap (λ (l : List ℕ). map rank l ++ (0 ∷ sign_number x.sign ∷ x.count ∷ [])) (text_kept x h)

  pub le_kept : (x y : Slot) → EndsBy used x → EndsBy used y → slot_le keys x y ≡ slot_le more x y
  unfolding slot_le
  le_kept x y h g = ap₂ lex_le (key_kept x h) (key_kept y g)

-- ---- slots whose texts end by a place

pub ends_by : {used later : ℕ} {x : Slot} → used ≤ later → EndsBy used x → EndsBy later x
ends_by h e = record { inside = (let k = e.inside in omega arith) }

pub all_end_by : {used later : ℕ} {xs : List Slot} → used ≤ later → AllEndBy used xs → AllEndBy later xs
all_end_by h none_ends = none_ends
all_end_by h (next_ends g e) = next_ends (ends_by h g) (all_end_by h e)

pub ends_last : {used : ℕ} {xs : List Slot} {x : Slot} → AllEndBy used xs → EndsBy used x → AllEndBy used (xs ++ (x ∷ []))
ends_last none_ends h = next_ends h none_ends
ends_last (next_ends g e) h = next_ends g (ends_last e h)

ends_insert : {used : ℕ} (before : Slot → Slot → Bool) {x : Slot} {l : List Slot} → EndsBy used x → AllEndBy used l → AllEndBy used (insert before x l)
ends_insert before h none_ends = next_ends h none_ends
ends_insert {used} before {x} h (next_ends {x = y} {xs = l} g e) = by (before x y) (ends_insert before h e)
  where
    by : (b : Bool) → AllEndBy used (insert before x l) → AllEndBy used (elim b [ true ↦ x ∷ y ∷ l | false ↦ y ∷ insert before x l ])
    by true ih = next_ends h (next_ends g e)
    by false ih = next_ends g ih

module _ {used : ℕ} {keys more : List ℕ} (c : Common used keys more) where
  insert_kept : {x : Slot} {l : List Slot} → EndsBy used x → AllEndBy used l → insert (slot_le keys) x l ≡ insert (slot_le more) x l
  insert_kept h none_ends = refl
  insert_kept {x} h (next_ends {x = y} {xs = l} g e) = by (slot_le keys x y) (slot_le more x y) (le_kept c x y h g) (insert_kept h e)
    where
      by : (a b : Bool) → a ≡ b → insert (slot_le keys) x l ≡ insert (slot_le more) x l
          → ◌≡◌ {A = List Slot} (elim a [ true ↦ x ∷ y ∷ l | false ↦ y ∷ insert (slot_le keys) x l ])
          (elim b [ true ↦ x ∷ y ∷ l | false ↦ y ∷ insert (slot_le more) x l ])
      by true true p ih = refl
      by false false p ih = ap (λ (s : List Slot). y ∷ s) ih
      by true false p ih = absurd (true≢false p)
      by false true p ih = absurd (false≢true p)

  fed_kept : {s xs : List Slot} → AllEndBy used s → AllEndBy used xs → fed_into (slot_le keys) s xs ≡ fed_into (slot_le more) s xs
  fed_kept d none_ends = refl
  fed_kept {s} d (next_ends {x = x} {xs = xs} h e) =
      fed_kept {s = insert (slot_le keys) x s} (ends_insert (slot_le keys) h d) e ∙ ap (λ (l : List Slot). fed_into (slot_le more) l xs) (insert_kept h d)

  pub feed_kept : {xs : List Slot} → AllEndBy used xs → feed keys xs ≡ feed more xs
  feed_kept e = fed_kept none_ends e

  pub holds_kept : {xs s : List Slot} → AllEndBy used xs → Holds keys xs s → Holds more xs s
  holds_kept e h = record { count = h.count; slots = h.slots ∙ feed_kept e }

  -- what slots stand for
  pub loss_kept : {x : Slot} {l : Loss Number} → EndsBy used x → StandsLoss keys x l → StandsLoss more x l
  loss_kept {x} h t = record { sign = t.sign; count = t.count; text = sym (text_kept c x h) ∙ t.text }

  pub item_kept : {x : Slot} {a : Item Number} → EndsBy used x → StandsItem keys x a → StandsItem more x a
  item_kept {x} h t = record { sign = t.sign; count = t.count; text = sym (text_kept c x h) ∙ t.text }

-- what is so of each slot that ends by the place
pub each_kept : {A : Type 0} {used : ℕ} (R S : Slot → A → Type 0) → ((x : Slot) (a : A) → EndsBy used x → R x a → S x a)
    → {xs : List Slot} {l : List A} → AllEndBy used xs → Each R xs l → Each S xs l
each_kept R S f none_ends none = none
each_kept R S f (next_ends h e) (next {a = x} {b = a} r q) = next (f x a h r) (each_kept R S f e q)
