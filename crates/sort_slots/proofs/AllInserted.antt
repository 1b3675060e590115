-- Slots fed one by one to `insert`: they stand in order, and none is lost. Assumes nothing.
use Prim.Native.Nat.{ℕ, ◌+◌, ◌≤◌, ◌<◌}
use mathlib.Core.Path.{refl, sym, ap, ◌∙◌, subst}
use mathlib.Core.List.{List, [], ◌∷◌, ◌++◌, append_assoc, append-nil}
use native.Mathlib.Omega.{arith}
use native.Mathlib.Decide.{dec_le}
use lib.Dec.{T}
use lib.ListN.{length, length-append}
use Rattle.rules.specs.Limits.{max_losses}
use Rattle.lang.specs.Order.{Perm, rising, insert}
use Rattle.lang.proofs.Sort.{Order, insert_perm}
use Rattle.lang.proofs.Lex.{by_key_lem}
use Rattle.sort_slots.specs.declared.Slot.{Slot}
use Rattle.sort_slots.specs.Slots.{slot_key, slot_le, feed, Holds}
use Rattle.sort_slots.proofs.Inserted.{insert_length, Inserted}
use Rattle.sort_slots.proofs.Feeds.{fed_perm, fed_last, fed_rises, insert_rises}

-- slots are compared by their keys
pub slot_order : (keys : List ℕ) → Order (slot_le keys)
unfolding slot_le
slot_order keys = by_key_lem (slot_key keys)

-- ---- the model

pub feed_rises : (keys : List ℕ) (xs : List Slot) → T (rising (slot_le keys) (feed keys xs))
feed_rises keys xs = fed_rises (slot_order keys) xs

pub feed_perm : (keys : List ℕ) (xs : List Slot) → Perm xs (feed keys xs)
feed_perm keys xs = fed_perm (slot_le keys) xs

-- ---- one slot more

module _ {keys : List ℕ} {s : List Slot} {x : Slot} {r : List Slot} (i : Inserted keys s x r) where
  pub with_rising : length s < max_losses → T (rising (slot_le keys) s) → T (rising (slot_le keys) r)
  with_rising h t = subst (λ (l : List Slot). T (rising (slot_le keys) l)) (sym (i.slots h)) (insert_rises (slot_order keys) x s t)

  pub with_perm : length s < max_losses → Perm (x ∷ s) r
  with_perm h = subst (λ (l : List Slot). Perm (x ∷ s) l) (sym (i.slots h)) (insert_perm (slot_le keys) x s)

  pub with_few : length s ≤ max_losses → length r ≤ max_losses
  with_few h = by (dec_le max_losses (length s))
    where
      by : Dec (max_losses ≤ length s) → length r ≤ max_losses
      by (yes g) = let e = ap length (i.full g) in omega arith
      by (no g) = let e = ap length (i.slots (omega arith)) in let k = insert_length keys x s in omega arith

-- ---- all of them

pub holds_none : {keys : List ℕ} → Holds keys [] []
holds_none = record { count = refl; slots = refl }

pub holds_with : {keys : List ℕ} {xs s : List Slot} {x : Slot} {r : List Slot}
    → Holds keys xs s → length xs < max_losses → Inserted keys s x r → Holds keys (xs ++ (x ∷ [])) r
holds_with {keys} {xs} {s} {x} h k i =
    let c = h.count in
    let e = i.slots (omega arith) in
    record {
      count = omega (arith, ap length e, insert_length keys x s, length-append xs (x ∷ []));
      slots = e ∙ ap (insert (slot_le keys) x) h.slots ∙ sym (fed_last (slot_le keys) xs x);
    }

-- `insert` of each in turn
pub data Fed (keys : List ℕ) : List Slot → List Slot → List Slot → Type 0 where
  fed_none : {s : List Slot} → Fed keys s [] s
  fed_next : {s r t : List Slot} {x : Slot} {xs : List Slot} → Inserted keys s x r → Fed keys r xs t → Fed keys s (x ∷ xs) t

fed_on : {keys : List ℕ} {ys xs s r : List Slot} → Holds keys ys s → length ys + length xs ≤ max_losses → Fed keys s xs r → Holds keys (ys ++ xs) r
fed_on {keys} {ys} {s = s} h k fed_none = subst (λ (l : List Slot). Holds keys l s) (sym (append-nil ys)) h
fed_on {keys} {ys} {r = r} h k (fed_next {x = x} {xs = xs} i f) =
    let l = length-append ys (x ∷ []) in
    let m = holds_with h (omega arith) i in
    subst (λ (l : List Slot). Holds keys l r) (append_assoc ys (x ∷ []) xs) (fed_on m (omega arith) f)

-- as many as there may be losses, fed to no slots
pub fed : {keys : List ℕ} {xs r : List Slot} → length xs ≤ max_losses → Fed keys [] xs r → Holds keys xs r
fed k f = fed_on holds_none (omega arith) f

module _ {keys : List ℕ} {xs s : List Slot} (h : Holds keys xs s) where
  pub holds_rising : T (rising (slot_le keys) s)
  holds_rising = subst (λ (l : List Slot). T (rising (slot_le keys) l)) (sym h.slots) (feed_rises keys xs)

  pub holds_perm : Perm xs s
  holds_perm = subst (λ (l : List Slot). Perm xs l) (sym h.slots) (feed_perm keys xs)
