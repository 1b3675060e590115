-- One loss, or adduct item, behind which stands no other: its slot is the only one, so that no key is looked at. Assumes nothing.
use Prim.Native.Nat.{ℕ, ◌+◌, min}
use mathlib.Core.Path.{◌≡◌, refl, sym, ap, ◌∙◌}
use mathlib.Core.Bool.{Bool, true, false}
use mathlib.Core.List.{List, append-nil}
use native.Mathlib.Omega.{arith}
use lib.ListN.{length, drop}
use Rattle.lang.specs.Parts.{flat}
use Rattle.read_opening.specs.Heads.{begins_change}
use Rattle.read_changes.specs.declared.ChangeRead.{ChangeRead}
use Rattle.read_changes.specs.Rows.{change_size}
use Rattle.read_changes.proofs.ChangeLoop.{size_moves}
use Rattle.sort_slots.specs.declared.Slot.{Slot}
use Rattle.sort_slots.specs.Slots.{with_slot}
use Rattle.store_sections.specs.declared.Cursors.{Cursors}
use Rattle.store_sections.specs.Pages.{Ran}
use Rattle.store_sections.proofs.Events.{ran_as}
use Rattle.sort_changes.specs.Gathered.{Got, change_here, gather_one, got_none, gathered}
use Rattle.sort_changes.specs.Ways.{BeginsOne}
use Rattle.sort_changes.specs.Events.{slot_events, no_keys, change_events, StoresChanges}
use Rattle.sort_changes.proofs.Gathers.{gathered_one, here_long, one_at}

-- a slot without a key
abbrev pub keyless : ChangeRead → ℕ → Slot
keyless x start = record { sign = x.sign; count = x.count; content = x.content; start = start; key = 0; len = 0 }

module _ (keys s : List ℕ) where
  -- what is got of the first
  abbrev first : Got
  first = gather_one (length s) (got_none keys) s

  abbrev first_slot : Slot
  first_slot = keyless (change_here s) (min (0 + (change_here s).start) (length s))

  first_length : length first.slots ≡ 1
  unfolding gather_one with_slot
  first_length = refl

  first_events : (j : ℕ) → flat (slot_events j s) first.slots ≡ slot_events j s first_slot
  unfolding gather_one with_slot slot_events
  first_events j = append-nil (slot_events j s first_slot)

-- what stands behind the first, as the code finds it
pub behind : (s : List ℕ) {r : List ℕ} {x : ChangeRead} {t : Bool} → x ≡ change_here s → r ≡ drop x.len s → begins_change r ≡ t
    → begins_change (drop (change_size s) s) ≡ t
behind s px pr z =
    ap (λ (n : ℕ). begins_change (drop n s)) (sym (ap (λ (y : ChangeRead). y.len) px ∙ here_long s)) ∙ ap begins_change (sym pr) ∙ z

-- how many bytes are read where no other stands there
pub alone_at : (s : List ℕ) {x : ChangeRead} → begins_change s ≡ true → x ≡ change_here s → begins_change (drop (change_size s) s) ≡ false → x.len ≡ (gathered no_keys s).at
alone_at s b px last =
    let m = size_moves s b in
    omega (
      arith,
      ap (λ (y : ChangeRead). y.len) px ∙ here_long s,
      ap (λ (a : Got). a.at) (gathered_one no_keys s b last),
      one_at (length s) (got_none no_keys) s,
    )

pub stores_one : {s d e : List ℕ} {j start : ℕ} {c k : Cursors} {x : ChangeRead} → BeginsOne s x → start ≡ min (0 + x.start) (length s) → Ran d c (slot_events j s (keyless x start)) e k
    → StoresChanges s j d c e (record { n = 1; len = x.len; cursors = k })
unfolding change_events
stores_one {s} {j = j} {start} {x = x} b ps ran =
    let px = b.is in
    let all = gathered_one no_keys s b.here b.last in
    let slot : keyless x start ≡ first_slot no_keys s = ap (keyless x) ps ∙ ap (λ (y : ChangeRead). keyless y (min (0 + y.start) (length s))) px in
    record {
      n = sym (ap (λ (a : Got). length a.slots) all ∙ first_length no_keys s);
      len = alone_at s b.here px b.last;
      ran = ran_as ran (ap (slot_events j s) slot ∙ sym (ap (λ (a : Got). flat (slot_events j s) a.slots) all ∙ first_events no_keys s j));
    }
