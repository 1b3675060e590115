-- What `insert` makes of slots that are all held, and of fewer. Assumes nothing.
use Prim.Native.Nat.{ℕ, suc, ◌+◌, ◌-◌, ◌≤◌, ◌<◌}
use mathlib.Core.Path.{◌≡◌, refl, sym, ap, ap₂, ◌∙◌}
use mathlib.Core.Bool.{Bool, true, false, cond, not}
use mathlib.Core.List.{List, [], ◌∷◌, ◌++◌}
use native.Mathlib.Omega.{arith}
use native.Mathlib.Decide.{dec_lt}
use native.Mathlib.Numerals.{add-one}
use borrow.Author.Tests.{le-leb, lt-leb, lt-ltb, le-ltb}
use borrow.Rule.Slice.PartMut.{mid_of, put_mid, same_len_mid}
use lib.Dec.{ltb}
use lib.ListN.{length, take, drop, set, replicate, length-append, length-set, length-drop}
use lib.Seq.{take-suc-set, take-set-le, take-take, take_at, drop_at, drop-drop, drop-set-lt, length-take-le}
use Rattle.std.proofs.Common.{Option, Some, None}
use Rattle.std.proofs.lemmas.List.{drop-append-le, drop-replicate}
use Rattle.std.proofs.lemmas.Slice.{between_is, take-put_mid, drop-put_mid}
use Rattle.std.proofs.lemmas.List.Sums.{prefix_len-le-length}
use Rattle.std.specs.List.{position_or_len}
use Rattle.std.specs.Option.{unwrap_or}
use Rattle.rules.specs.Limits.{max_losses}
use Rattle.lang.specs.Order.{insert}
use Rattle.lang.proofs.Sort.{insert_perm}
use Rattle.rules.proofs.Totals.{perm_length}
use Rattle.sort_slots.specs.declared.Slot.{Slot}
use Rattle.sort_slots.specs.Slots.{slot_le, with_slot}
use Rattle.sort_slots.specs.Blanks.{blank, FirstHeld}

-- ---- the two cases

module _ (keys : List ℕ) (l : List Slot) (x : Slot) where
  pub with_full : max_losses ≤ length l → with_slot keys l x ≡ l
  unfolding with_slot
  with_full h = rw (le-leb max_losses (length l) h)

  pub with_room : length l < max_losses → with_slot keys l x ≡ insert (slot_le keys) x l
  unfolding with_slot
  with_room h = rw (lt-leb max_losses (length l) h)

pub insert_length : (keys : List ℕ) (x : Slot) (l : List Slot) → length (insert (slot_le keys) x l) ≡ length l + 1
insert_length keys x l = omega (arith, perm_length (insert_perm (slot_le keys) x l))

-- x is inserted where there is room
pub record Inserted (keys : List ℕ) (s : List Slot) (x : Slot) (r : List Slot) : Type 0 where
  pub slots : length s < max_losses → r ≡ insert (slot_le keys) x s
  pub full : max_losses ≤ length s → r ≡ s

pub inserted : {keys : List ℕ} {s : List Slot} {x : Slot} {r : List Slot} → r ≡ with_slot keys s x → Inserted keys s x r
inserted {keys} {s} {x} e = record { slots = λ h. e ∙ with_room keys s x h; full = λ h. e ∙ with_full keys s x h }

-- ---- the place of a slot

module _ {A : Type 0} (before : A → A → Bool) (x : A) where
  -- before the first that it stands before, else at the end
  abbrev place : List A → ℕ
  place l = position_or_len (before x) l

  insert_at : (l : List A) → insert before x l ≡ take (place l) l ++ (x ∷ drop (place l) l)
  insert_at [] = refl
  insert_at (y ∷ l) = by (before x y) (insert_at l)
    where
      by : (b : Bool) → insert before x l ≡ take (place l) l ++ (x ∷ drop (place l) l)
          → elim b [ true ↦ x ∷ y ∷ l | false ↦ y ∷ insert before x l ]
          ≡ take (cond (not b) (1 + place l) 0) (y ∷ l) ++ (x ∷ drop (cond (not b) (1 + place l) 0) (y ∷ l))
      by true ih = refl
      by false ih =
          let one : suc (place l) ≡ 1 + place l = omega arith in
          ap (λ (s : List A). y ∷ s) ih ∙ ap (λ (k : ℕ). take k (y ∷ l) ++ (x ∷ drop k (y ∷ l))) one

  -- as the code finds it among the n that are held
  place_found : (l : List A) {r : Option ℕ} {n to : ℕ} → r ≡ cond (ltb (place l) (length l)) (Some (place l)) None → length l ≡ n → to ≡ unwrap_or r n → to ≡ place l
  place_found l {n = n} e long f = f ∙ ap (λ (o : Option ℕ). unwrap_or o n) e ∙ by (dec_lt (place l) (length l))
    where
      by : Dec (place l < length l) → unwrap_or (cond (ltb (place l) (length l)) (Some (place l)) None) n ≡ place l
      by (yes h) = rw (lt-ltb (place l) (length l) h)
      by (no h) = rw (le-ltb (place l) (length l) (omega arith)) (omega (arith, prefix_len-le-length (λ y. not (before x y)) l))

-- ---- the slots as they are held: the new one is put behind them, and moved in front of those from its place on

module _ {A : Type 0} (at : List A) (n to : ℕ) (x : A) (room : n < length at) (inside : to ≤ n) where
  abbrev held : List A
  held = take n at

  held_long : length held ≡ n
  held_long = length-take-le n at (omega arith)

  behind : mid_of to (n + 1 - to) (set at n x) ≡ drop to held ++ (x ∷ [])
  behind =
      between_is (set at n x) to (n + 1) ∙ ap (λ (k : ℕ). drop to (take k (set at n x))) (add-one n)
      ∙ ap (drop to) (take-suc-set at n x room) ∙ drop-append-le to held (x ∷ []) (omega (arith, held_long))

  rest_long : length (drop to held) ≡ n - to
  rest_long = omega (arith, length-drop to held, held_long)

  moved : (m : List A) → m ≡ drop to held ++ (x ∷ []) → drop (length m - 1) m ++ take (length m - 1) m ≡ x ∷ drop to held
  moved m e =
      let k : length m - 1 ≡ n - to = omega (arith, ap length e, length-append (drop to held) (x ∷ []), rest_long) in
      ap (λ (i : ℕ). drop i m ++ take i m) k ∙ ap (λ (s : List A). drop (n - to) s ++ take (n - to) s) e
      ∙ ap₂ (λ (a b : List A). a ++ b) (drop_at (drop to held) (x ∷ []) (n - to) rest_long) (take_at (drop to held) (x ∷ []) (n - to) rest_long)

  pub put_among : {ys : List A} → ys ≡ drop (length (mid_of to (n + 1 - to) (set at n x)) - 1) (mid_of to (n + 1 - to) (set at n x))
      ++ take (length (mid_of to (n + 1 - to) (set at n x)) - 1) (mid_of to (n + 1 - to) (set at n x))
      → take (n + 1) (put_mid to (n + 1 - to) (set at n x) ys) ≡ take to held ++ (x ∷ drop to held)
  put_among {ys} e =
      let y : ys ≡ x ∷ drop to held = e ∙ moved (mid_of to (n + 1 - to) (set at n x)) behind in
      take-put_mid to (n + 1 - to) (set at n x) ys (n + 1) (omega (arith, ap length y, rest_long)) (omega (arith, length-set at n x))
      ∙ ap₂ (λ (a b : List A). a ++ b) (take-set-le to at n x inside ∙ sym (take-take to n at inside)) y

-- what stands behind them stays blank
pub still_blank : {at : List Slot} (ys : List Slot) {n to : ℕ} (x : Slot) → FirstHeld n at → n < max_losses → to ≤ n + 1
    → length ys ≡ length (mid_of to (n + 1 - to) (set at n x)) → FirstHeld (n + 1) (put_mid to (n + 1 - to) (set at n x) ys)
still_blank {at} ys {n} {to} x h few inside e =
    let stored = set at n x in
    let all : length stored ≡ max_losses = length-set at n x ∙ h.all in
    let long : length ys ≡ n + 1 - to = e ∙ length-take-le (n + 1 - to) (drop to stored) (omega (arith, length-drop to stored)) in
    let one_less : max_losses - n - 1 ≡ max_losses - (n + 1) = omega arith in
    record {
      few = omega arith;
      all = same_len_mid to (n + 1 - to) stored ys e ∙ all;
      behind =
          drop-put_mid to (n + 1 - to) stored ys (n + 1) (omega arith) (omega arith) long ∙ drop-set-lt (n + 1) at n x (omega arith)
          ∙ sym (drop-drop 1 n at) ∙ ap (drop 1) h.behind ∙ drop-replicate 1 (max_losses - n) blank ∙ ap (λ (k : ℕ). replicate k blank) one_less;
    }

-- where there is room
pub one_more : (keys : List ℕ) (x : Slot) (at : List Slot) {l ys : List Slot} {n to : ℕ} {r : Option ℕ} → take n at ≡ l → n < length at → n < max_losses
    → r ≡ cond (ltb (place (slot_le keys) x l) (length l)) (Some (place (slot_le keys) x l)) None → to ≡ unwrap_or r n
    → ys ≡ drop (length (mid_of to (n + 1 - to) (set at n x)) - 1) (mid_of to (n + 1 - to) (set at n x))
    ++ take (length (mid_of to (n + 1 - to) (set at n x)) - 1) (mid_of to (n + 1 - to) (set at n x))
    → take (n + 1) (put_mid to (n + 1 - to) (set at n x) ys) ≡ with_slot keys l x
one_more keys x at {l} {n = n} {to = to} e room few r u m =
    let long : length l ≡ n = ap length (sym e) ∙ length-take-le n at (omega arith) in
    let f : to ≡ place (slot_le keys) x l = place_found (slot_le keys) x l r long u in
    let inside : to ≤ n = omega (arith, prefix_len-le-length (λ y. not (slot_le keys x y)) l) in
    put_among at n to x room inside m
    ∙ ap₂ (λ (k : ℕ) (s : List Slot). take k s ++ (x ∷ drop k s)) f e ∙ sym (insert_at (slot_le keys) x l) ∙ sym (with_room keys l x (omega arith))
