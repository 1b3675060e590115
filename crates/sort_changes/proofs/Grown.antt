-- One loss, or adduct item, more than were got. Assumes nothing.
use Prim.Native.Nat.{ℕ, ◌+◌, min}
use mathlib.Core.Path.{◌≡◌, ◌∙◌}
use mathlib.Core.List.{List}
use lib.ListN.{length, drop}
use lib.Seq.{sets}
use Rattle.put_bytes.specs.Puts.{max_place}
use Rattle.sort_slots.specs.Slots.{with_slot}
use Rattle.sort_changes.specs.declared.Gathered.{Gathered}
use Rattle.sort_changes.specs.Keys.{key_text}
use Rattle.sort_changes.specs.Gathered.{Got, slot_from, change_here, gather_one, Is, GathersOne}

-- where what there was was got, so is what there is now
pub grows_is : {g : Gathered} {s keys keys' : List ℕ} {r : Gathered} → GathersOne g s keys keys' r
    → (a : Got) → Is a keys g → Is (gather_one (length s) a (drop g.at s)) keys' r
unfolding gather_one
grows_is {g} {s} {keys} {keys'} {r} q a h =
    let x = change_here (drop g.at s) in
    let text = key_text (drop g.at s) x in
    let next = min (a.used + length text) max_place in
    let kk : keys' ≡ sets a.keys a.used text = q.put.made ∙ (λ j. sets (h.buffer j) (h.used j) text) in
    let nn : r.used ≡ next = q.put.next ∙ (λ j. min (h.used j + length text) max_place) in
    record {
      slots =
          q.slots ∙ (λ j. with_slot (kk j) (h.slots j) (slot_from (length s) (h.at j) (h.used j) x (nn j)));
      buffer = kk;
      used = nn;
      at = q.at ∙ (λ j. min (h.at j + x.len) (length s));
    }
