-- Losses, or adduct items, gathered in preferred order from the bytes that begin with them. Assumes nothing.
use Rattle.std.specs.Prelude.{ℕ, ◌+◌, ◌-◌, min, ◌≡◌, List, [], length, drop, None}
use Rattle.std.proofs.lemmas.List.Edits.{sets}
use Rattle.lang.specs.Walk.{walk}
use Rattle.put_bytes.specs.Puts.{max_place, Put}
use Rattle.read_opening.specs.Heads.{begins_change}
use Rattle.read_changes.specs.declared.ChangeRead.{ChangeRead}
use Rattle.read_changes.specs.Changes.{change_of}
use Rattle.read_changes.specs.Rows.{change_size}
use Rattle.sort_slots.specs.declared.Slot.{Slot}
use Rattle.sort_slots.specs.Slots.{with_slot}
use Rattle.sort_changes.specs.declared.Gathered.{Gathered}
use Rattle.sort_changes.specs.Keys.{key_text}

-- the slots in order, the buffer of keys, how many bytes of it are used, how many bytes of `all` were read
pub record Got : Type 0 where
  pub slots : List Slot
  pub keys : List ℕ
  pub used : ℕ
  pub at : ℕ

-- the slot of a change read at the place `at` of `all` bytes; its text stands among the keys from `used` up to `next`
abbrev pub slot_from : ℕ → ℕ → ℕ → ChangeRead → ℕ → Slot
slot_from all at used x next =
    record { sign = x.sign; count = x.count; content = x.content; start = min (at + x.start) all; key = used; len = next - used }

abbrev pub slot_of : ℕ → Got → ChangeRead → ℕ → Slot
slot_of all a x next = slot_from all a.at a.used x next

abbrev pub got_with : ℕ → Got → ChangeRead → List ℕ → Got
got_with all a x t =
    let next = min (a.used + length t) max_place in
    let keys = sets a.keys a.used t in
    record { slots = with_slot keys a.slots (slot_of all a x next); keys = keys; used = next; at = min (a.at + x.len) all }

-- the first of the bytes s; its limits are not asked for
abbrev pub change_here : List ℕ → ChangeRead
change_here s = change_of 0 0 (length s) s None

-- one more, where the bytes s begin with it
unfoldable pub gather_one : ℕ → Got → List ℕ → Got
gather_one all a s = got_with all a (change_here s) (key_text s (change_here s))

abbrev pub got_none : List ℕ → Got
got_none keys = record { slots = []; keys = keys; used = 0; at = 0 }

-- all that the bytes s begin with
unfoldable pub gathered : List ℕ → List ℕ → Got
gathered keys s = (walk begins_change change_size (gather_one (length s)) s (got_none keys)).known

-- the code's answer and its buffer are what was got
pub record Is (a : Got) (keys : List ℕ) (g : Gathered) : Type 0 where
  pub slots : g.slots ≡ a.slots
  pub buffer : keys ≡ a.keys
  pub used : g.used ≡ a.used
  pub at : g.at ≡ a.at

-- one more than there was: its text is put behind the others, and its slot among the slots
pub record GathersOne (g : Gathered) (s keys keys' : List ℕ) (r : Gathered) : Type 0 where
  pub put : Put keys g.used (key_text (drop g.at s) (change_here (drop g.at s))) keys' r.used
  pub slots : r.slots ≡ with_slot keys' g.slots (slot_from (length s) g.at g.used (change_here (drop g.at s)) r.used)
  pub at : r.at ≡ min (g.at + (change_here (drop g.at s)).len) (length s)

abbrev pub Gathers : List ℕ → List ℕ → List ℕ → Gathered → Type 0
Gathers s keys keys' g = Is (gathered keys s) keys' g
