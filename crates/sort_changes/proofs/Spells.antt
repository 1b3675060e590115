-- The steps of spelling slots anew, and which of the three ways is taken: none, one alone, or all from their slots. Assumes nothing.
use Prim.Native.Nat.{ℕ, ◌≤◌}
use mathlib.Core.Path.{◌≡◌, sym, ap, ap₂, ◌∙◌}
use mathlib.Core.Bool.{Bool, true, false, cond}
use mathlib.Core.List.{List, [], ◌++◌}
use lib.ListN.{length, drop}
use Rattle.lang.specs.Parts.{flat}
use Rattle.put_bytes.specs.Puts.{max_place, Put}
use Rattle.put_bytes.proofs.Putting.{put_none, put_then, put_as}
use Rattle.print_count.specs.declared.Respelled.{Respelled}
use Rattle.print_count.specs.Heads.{head_text}
use Rattle.read_opening.specs.Heads.{begins_change}
use Rattle.read_changes.specs.declared.ChangeRead.{ChangeRead}
use Rattle.read_changes.specs.Rows.{change_size}
use Rattle.sort_slots.specs.declared.Slot.{Slot}
use Rattle.sort_slots.specs.Slots.{slot_text}
use Rattle.sort_changes.specs.declared.Gathered.{Gathered}
use Rattle.sort_changes.specs.Keys.{key_text}
use Rattle.sort_changes.specs.Gathered.{Got, Gathers}
use Rattle.sort_changes.specs.Events.{no_keys}
use Rattle.sort_changes.specs.Ways.{BeginsOne, BeginsSeveral}
use Rattle.sort_changes.specs.Spelled.{slot_spelled, slots_spelled, many_spelled, SpellsMany, one_spelled, changes_spelled, SpellsChanges}
use Rattle.sort_changes.proofs.Gathers.{gathered_none}
use Rattle.sort_changes.proofs.Alone.{alone_at}

-- ---- one slot

pub slot_put : (keys : List ℕ) (x : Slot) {d e f t : List ℕ} {to p r : ℕ} → Put d to (head_text x.sign x.count) e p → t ≡ slot_text keys x → Put e p t f r
    → Put d to (slot_spelled keys x) f r
unfolding slot_spelled
slot_put keys x a q b = put_then a (put_as b q)

-- ---- all slots

pub spells_all : {s d e keys : List ℕ} {to r : ℕ} {g : Gathered} {l : List Slot} → Gathers s no_keys keys g → l ≡ g.slots → Put d to (slots_spelled keys l) e r
    → SpellsMany s d to e (record { to = r; len = g.at })
unfolding many_spelled
spells_all g h p = record { len = g.at; put = put_as p (ap₂ (λ k l. flat (slot_spelled k) l) g.buffer (h ∙ g.slots)) }

-- ---- which way

module _ (s : List ℕ) where
  abbrev ways_of : Bool → Bool → List ℕ
  ways_of here more = cond here (cond more (many_spelled s) (one_spelled s)) []

  pub spelled_none : begins_change s ≡ false → changes_spelled s ≡ []
  unfolding changes_spelled
  spelled_none e = ap (λ (t : Bool). ways_of t (begins_change (drop (change_size s) s))) e

  pub spelled_one : begins_change s ≡ true → begins_change (drop (change_size s) s) ≡ false → changes_spelled s ≡ one_spelled s
  unfolding changes_spelled
  spelled_one e z = ap₂ ways_of e z

  pub spelled_many : begins_change s ≡ true → begins_change (drop (change_size s) s) ≡ true → changes_spelled s ≡ many_spelled s
  unfolding changes_spelled
  spelled_many e z = ap₂ ways_of e z

pub spells_none : {s d : List ℕ} {to : ℕ} → length d ≤ max_place → to ≤ max_place → begins_change s ≡ false → SpellsChanges s d to d (record { to = to; len = 0 })
spells_none {s} h g e =
    record { len = ap (λ (a : Got). a.at) (sym (gathered_none no_keys s e)); put = put_as (put_none h g) (sym (spelled_none s e)) }

pub spells_more : {s d e : List ℕ} {to : ℕ} {q : Respelled} → BeginsSeveral s → SpellsMany s d to e q → SpellsChanges s d to e q
spells_more {s} b m = record { len = m.len; put = put_as m.put (sym (spelled_many s b.here b.next)) }

pub spells_one : {s d e f : List ℕ} {to p q : ℕ} {x : ChangeRead} → BeginsOne s x → Put d to (head_text x.sign x.count) e p → Put e p (key_text s x) f q
    → SpellsChanges s d to f (record { to = q; len = x.len })
unfolding one_spelled
spells_one {s} b h k =
    record {
      len = alone_at s b.here b.is b.last;
      put =
          put_as (put_then h k)
          (ap (λ (y : ChangeRead). head_text y.sign y.count ++ key_text s y) b.is ∙ sym (spelled_one s b.here b.last));
    }
