-- The slots of spelled losses, or adduct items, in a row: each is fed in reading order, and its text is kept behind those before it.
-- Assumes nothing.
use Prim.Native.Nat.{ℕ, ◌+◌, ◌-◌, ◌*◌, ◌≤◌, ◌<◌, min}
use mathlib.Core.Path.{◌≡◌, refl, sym, ap, ◌∙◌, subst}
use mathlib.Core.List.{List, [], ◌∷◌, ◌++◌, append_assoc, append-nil}
use native.Mathlib.Omega.{arith}
use lib.ListN.{length, take, drop, length-take, length-append, length-replicate}
use lib.Seq.{sets, sets-eq, length-sets, take-append_seam, drop-append_seam, drop_at, drop-drop}
use Rattle.std.specs.Prelude.{Option, None}
use Rattle.lang.specs.Parts.{opt_text, flat}
use Rattle.lang.specs.Order.{Each, none, next, insert}
use Rattle.lang.specs.Walk.{Walked}
use Rattle.lang.proofs.Walks.{walk_ends}
use Rattle.rules.specs.Numbers.{number_text}
use Rattle.rules.specs.Limits.{max_losses, max_text}
use Rattle.rules.proofs.Totals.{perm_length}
use Rattle.changes.proofs.Signs.{sign_read}
use Rattle.put_bytes.specs.Puts.{max_place}
use Rattle.faults.specs.declared.Refusal.{Refusal}
use Rattle.read_formula.proofs.Ends.{EndsFormula}
use Rattle.put_formula.proofs.Chains.{AllOf, all_more}
use Rattle.read_opening.specs.Heads.{begins_change}
use Rattle.read_changes.specs.declared.ChangeRead.{ChangeRead}
use Rattle.read_changes.specs.Rows.{change_size}
use Rattle.read_changes.proofs.Spelled.{content_text, Spelled, change_text}
use Rattle.read_changes.proofs.Begins.{begins_change_lem, change_ends}
use Rattle.read_changes.proofs.OneChange.{change_read}
use Rattle.read_changes.proofs.Measures.{change_long}
use Rattle.read_changes.proofs.ChangeLoop.{size_moves}
use Rattle.read_changes.proofs.Sums.{EndsChanges}
use Rattle.sort_slots.specs.declared.Slot.{Slot}
use Rattle.sort_slots.specs.Slots.{slot_text, slot_le, with_slot, feed, EndsBy, AllEndBy, none_ends}
use Rattle.sort_slots.proofs.Feeds.{fed_last}
use Rattle.sort_slots.proofs.Inserted.{with_room}
use Rattle.sort_slots.proofs.AllInserted.{feed_perm}
use Rattle.sort_slots.proofs.Kept.{Common, common_sets, text_kept, all_end_by, ends_last, feed_kept, each_kept}
use Rattle.sort_changes.specs.Keys.{key_text}
use Rattle.sort_changes.specs.Gathered.{Got, slot_of, got_with, change_here, gather_one, got_none, gathered}
use Rattle.sort_changes.specs.Events.{slot_events, keys_size, no_keys}
use Rattle.sort_changes.proofs.Gathers.{gather_from, gather_on}
use Rattle.sort_changes.proofs.SlotHolds.{what_key, count_value, spelled_events, ChangeFits, count_told_lem, behind_head_lem, start_within, here_told, key_told, events_told}

-- a slot of the bytes `all` stands for a spelled loss or adduct item, and stores what this stores in section j
pub record Stands {m : ℕ} (j : ℕ) (all keys : List ℕ) (y : Slot) (x : Spelled m) : Type 0 where
  pub sign : y.sign ≡ sign_read x.sign
  pub count : y.count ≡ count_value x.count
  pub text : slot_text keys y ≡ what_key x.what
  pub events : slot_events j all y ≡ spelled_events j x

-- ---- one more

-- what was got, and b with one more: its slot is y
record Next {m : ℕ} (j : ℕ) (all : List ℕ) (a b : Got) (y : Slot) (x : Spelled m) : Type 0 where
  slots : b.slots ≡ with_slot b.keys a.slots y
  common : Common a.used a.keys b.keys
  ends : EndsBy b.used y
  stands : Stands j all b.keys y x
  room : length b.keys ≡ length a.keys
  later : a.used ≤ b.used
  used : b.used ≤ a.used + (max_text + 2)
  at : b.at ≡ a.at + length (change_text x)

-- bytes that were stored are there
text_there : (l : List ℕ) (i : ℕ) (t : List ℕ) → i + length t ≤ length l → take (length t) (drop i (sets l i t)) ≡ t
text_there l i t h =
    let r = drop (i + length t) l in
    ap (λ (z : List ℕ). take (length t) (drop i z)) (sets-eq t l i h ∙ append_assoc (take i l) t r)
    ∙ ap (take (length t)) (drop_at (take i l) (t ++ r) i (omega (arith, length-take i l))) ∙ take-append_seam t r

module _ {m : ℕ} (j : ℕ) (all : List ℕ) (a : Got) (x : Spelled m) (k : List ℕ) (e : EndsFormula k) (f : ChangeFits x)
    (here : drop a.at all ≡ change_text x ++ k) (long : a.at + length (change_text x ++ k) ≡ length all)
    (room : a.used + (max_text + 2) ≤ length a.keys) (small : length a.keys ≤ max_place) where
  one_is : (g : Option Refusal) → change_here (change_text x ++ k) ≡ change_read x g → gather_one (length all) a (change_text x ++ k) ≡ got_with (length all) a (change_read x g) (what_key x.what)
  unfolding gather_one
  one_is g p =
      let t : key_text (change_text x ++ k) (change_here (change_text x ++ k)) ≡ what_key x.what = ap (key_text (change_text x ++ k)) p ∙ key_told x k e g f.units in
      λ i. got_with (length all) a (p i) (t i)

  abbrev next_used : ℕ
  next_used = min (a.used + length (what_key x.what)) max_place

  next_got : (g : Option Refusal) → Next j all a (got_with (length all) a (change_read x g) (what_key x.what)) (slot_of (length all) a (change_read x g) next_used) x
  next_got g =
      let t = what_key x.what in
      let s = f.short in
      let start = 1 + length (opt_text number_text x.count) in
      let y = slot_of (length all) a (change_read x g) next_used in
      let keys = sets a.keys a.used t in
      let w = start_within x k e in
      let v = length-append (change_text x) k in
      let l : next_used - a.used ≡ length t = omega arith in
      let q : min (a.at + start) (length all) ≡ a.at + start = omega arith in
      let r : drop y.start all ≡ content_text x.what ++ k =
      ap (λ (n : ℕ). drop n all) q ∙ sym (drop-drop start a.at all) ∙ ap (drop start) here ∙ behind_head_lem x k e in
      record {
        slots = refl;
        common = common_sets a.used a.keys a.used t (omega arith);
        ends = record { inside = omega arith };
        stands =
            record {
              sign = refl;
              count = count_told_lem x.count f.count;
              text = ap (λ (n : ℕ). take n (drop a.used keys)) l ∙ text_there a.keys a.used t (omega arith);
              events = events_told x k e j all y refl (count_told_lem x.count f.count) refl r f.units;
            };
        room = length-sets a.keys a.used t;
        later = omega arith;
        used = omega arith;
        at = omega arith;
      }

  one_next : (y : Slot) × Next j all a (gather_one (length all) a (change_text x ++ k)) y x
  one_next =
      let h = here_told x k e in
      let y = slot_of (length all) a (change_read x h.0) next_used in
      (y, subst (λ (b : Got). Next j all a b y x) (sym (one_is h.0 h.1)) (next_got h.0))

-- ---- all of them

-- the slots of ds, fed in reading order as ys
pub record Fed {m : ℕ} (j : ℕ) (all : List ℕ) (a : Got) (ys : List Slot) (ds : List (Spelled m)) : Type 0 where
  pub slots : a.slots ≡ feed a.keys ys
  pub ends : AllEndBy a.used ys
  pub each : Each (Stands j all a.keys) ys ds
  pub room : length a.keys ≡ keys_size
  pub used : a.used ≤ (max_text + 2) * length ys

each_last : {A B : Type 0} (R : A → B → Type 0) {l : List A} {n : List B} {a : A} {b : B} → Each R l n → R a b → Each R (l ++ (a ∷ [])) (n ++ (b ∷ []))
each_last R none r = next r none
each_last R (next q e) r = next q (each_last R e r)

module _ {m : ℕ} {j : ℕ} {all : List ℕ} where
  stand_kept : {used : ℕ} {keys more : List ℕ} → Common used keys more → (y : Slot) (x : Spelled m) → EndsBy used y → Stands j all keys y x → Stands j all more y x
  stand_kept c y x h t = record { sign = t.sign; count = t.count; text = sym (text_kept c y h) ∙ t.text; events = t.events }

  pub fed_count : {a : Got} {ys : List Slot} {ds : List (Spelled m)} → Fed j all a ys ds → length a.slots ≡ length ys
  fed_count {a} {ys} f = ap length f.slots ∙ sym (perm_length (feed_perm a.keys ys))

  fed_next : {a b : Got} {ys : List Slot} {ds : List (Spelled m)} {y : Slot} {x : Spelled m} → Fed j all a ys ds → Next j all a b y x → length ys < max_losses
      → Fed j all b (ys ++ (y ∷ [])) (ds ++ (x ∷ []))
  fed_next {a} {b} {ys} {ds} {y} {x} f n h =
      let z : length a.slots < max_losses = omega (arith, fed_count f) in
      record {
        slots =
            n.slots ∙ with_room b.keys a.slots y z
            ∙ ap (insert (slot_le b.keys) y) (f.slots ∙ feed_kept n.common f.ends) ∙ sym (fed_last (slot_le b.keys) ys y);
        ends = ends_last (all_end_by n.later f.ends) n.ends;
        each =
            each_last (Stands j all b.keys)
            (each_kept (Stands j all a.keys) (Stands j all b.keys) (stand_kept n.common) f.ends f.each) n.stands;
        room = n.room ∙ f.room;
        used = omega (arith, n.used, f.used, length-append ys (y ∷ []));
      }

pub change_size_lem : {m : ℕ} (x : Spelled m) (k : List ℕ) → EndsFormula k → change_size (change_text x ++ k) ≡ length (change_text x)
change_size_lem x k e =
    let s = change_text x ++ k in
    change_long 0 0 0 0 0 (length s) s None None ∙ ap (λ (p : ChangeRead). p.len) (here_told x k e).1

-- what follows one of a row
pub row_ends : {m : ℕ} (xs : List (Spelled m)) (k : List ℕ) → EndsFormula k → EndsFormula (flat change_text xs ++ k)
row_ends [] k e = e
row_ends (x ∷ xs) k e = rw (append_assoc (change_text x) (flat change_text xs) k) (change_ends x (flat change_text xs ++ k))

-- after all of them, from a on, where a has got ds
pub record After {m : ℕ} (j : ℕ) (all : List ℕ) (b : Got) (ds : List (Spelled m)) (at : ℕ) : Type 0 where
  pub read : List Slot
  pub fed : Fed j all b read ds
  pub at_is : b.at ≡ at

module _ {m : ℕ} (j : ℕ) (all : List ℕ) (k : List ℕ) (e : EndsChanges k) where
  fed_walk : (xs : List (Spelled m)) (a : Got) (ys : List Slot) (ds : List (Spelled m)) → Fed j all a ys ds → length ys + length xs ≤ max_losses → AllOf ChangeFits xs
      → drop a.at all ≡ flat change_text xs ++ k → a.at + length (flat change_text xs ++ k) ≡ length all
      → After j all (gather_from (length all) (flat change_text xs ++ k) a).known (ds ++ xs) (a.at + length (flat change_text xs))
  fed_walk [] a ys ds f n h here long =
      let w = walk_ends begins_change change_size (gather_one (length all)) size_moves k a e.none in
      record {
        read = ys;
        fed = subst (λ (b : Got). Fed j all b ys (ds ++ [])) (sym (ap (λ (w : Walked Got). w.known) w)) (subst (Fed j all a ys) (sym (append-nil ds)) f);
        at_is = ap (λ (w : Walked Got). w.known.at) w ∙ omega arith;
      }
  fed_walk (x ∷ xs) a ys ds f n (all_more p h) here long =
      let r = flat change_text xs ++ k in
      let s = change_text x ++ r in
      let t = append_assoc (change_text x) (flat change_text xs) k in
      let o = row_ends xs k e.formula in
      let room = f.room in
      let c = one_next j all a x r o p (here ∙ t) (omega (arith, ap length t, long)) (omega (arith, f.used)) (omega arith) in
      let y = c.0 in
      let b = gather_one (length all) a s in
      let g : Fed j all b (ys ++ (y ∷ [])) (ds ++ (x ∷ [])) = fed_next f c.1 (omega arith) in
      let u = length-append (change_text x) r in
      let here' : drop b.at all ≡ r =
      ap (λ (i : ℕ). drop i all) c.1.at ∙ sym (drop-drop (length (change_text x)) a.at all)
      ∙ ap (drop (length (change_text x))) (here ∙ t) ∙ drop-append_seam (change_text x) r in
      let z = fed_walk xs b (ys ++ (y ∷ [])) (ds ++ (x ∷ [])) g (omega (arith, length-append ys (y ∷ []))) h here'
      (omega (arith, c.1.at, u, ap length t, long)) in
      let w : gather_from (length all) (flat change_text (x ∷ xs) ++ k) a ≡ gather_from (length all) r b =
      ap (λ (q : List ℕ). gather_from (length all) q a) t ∙ gather_on (length all) s a (begins_change_lem x r)
      ∙ ap (λ (i : ℕ). gather_from (length all) (drop i s) b) (change_size_lem x r o)
      ∙ ap (λ (q : List ℕ). gather_from (length all) q b) (drop-append_seam (change_text x) r) in
      let v = ap (λ (w : Walked Got). w.known) (sym w) in
      record {
        read = z.read;
        fed = subst (λ (b : Got). Fed j all b z.read (ds ++ (x ∷ xs))) v (subst (Fed j all (gather_from (length all) r b).known z.read) (append_assoc ds (x ∷ []) xs) z.fed);
        at_is = ap (λ (b : Got). b.at) (sym v) ∙ z.at_is ∙ omega (arith, c.1.at, length-append (change_text x) (flat change_text xs));
      }

-- no more than there are slots, and each fits
pub record RowFits {m : ℕ} (xs : List (Spelled m)) : Type 0 where
  pub few : length xs ≤ max_losses
  pub each : AllOf ChangeFits xs

pub gathered_fed : {m : ℕ} (j : ℕ) (xs : List (Spelled m)) (k : List ℕ) → EndsChanges k → RowFits xs
    → After j (flat change_text xs ++ k) (gathered no_keys (flat change_text xs ++ k)) xs (length (flat change_text xs))
unfolding gathered
gathered_fed j xs k e h =
    let all = flat change_text xs ++ k in
    let n = h.few in
    let f : Fed j all (got_none no_keys) [] [] = record { slots = refl; ends = none_ends; each = none; room = length-replicate {A = ℕ} keys_size 0; used = omega arith } in
    let z = fed_walk j all k e xs (got_none no_keys) [] [] f (omega arith) h.each refl (omega arith) in
    record { read = z.read; fed = z.fed; at_is = z.at_is ∙ omega arith }
