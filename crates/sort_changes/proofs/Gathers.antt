-- The walk over losses or adduct items, each put among the slots. Assumes nothing.
use Prim.Native.Nat.{ℕ, ◌+◌, ◌≤◌, min}
use mathlib.Core.Path.{◌≡◌, refl, sym, ap, ◌∙◌, subst}
use mathlib.Core.Bool.{true, false}
use mathlib.Core.List.{List}
use native.Mathlib.Omega.{arith}
use lib.ListN.{length, drop, length-drop}
use lib.Seq.{drop-drop, length-sets}
use Rattle.std.specs.Prelude.{None}
use Rattle.lang.specs.Walk.{Walked, walk}
use Rattle.lang.specs.Parts.{flat}
use Rattle.lang.proofs.Walks.{walk_on, walk_ends}
use Rattle.put_bytes.specs.Puts.{max_place}
use Rattle.read_opening.specs.Heads.{begins_change}
use Rattle.read_changes.specs.Rows.{change_size}
use Rattle.read_changes.proofs.Measures.{change_long}
use Rattle.read_changes.proofs.ChangeLoop.{size_moves}
use Rattle.sort_slots.specs.declared.Slot.{Slot}
use Rattle.sort_slots.specs.Slots.{no_slots}
use Rattle.store_sections.specs.declared.Cursors.{Cursors}
use Rattle.store_sections.specs.Pages.{Ran}
use Rattle.store_sections.proofs.Events.{ran_none, ran_as}
use Rattle.sort_changes.specs.declared.Gathered.{Gathered}
use Rattle.sort_changes.specs.Keys.{key_text}
use Rattle.sort_changes.specs.Gathered.{Got, change_here, gather_one, got_none, gathered, Is, GathersOne, Gathers}
use Rattle.sort_changes.proofs.Grown.{grows_is}
use Rattle.sort_changes.specs.Events.{slot_events, slots_events, no_keys, change_events, StoresChanges}

-- ---- the model

-- the walk of a part of `all` bytes
abbrev pub gather_from : ℕ → List ℕ → Got → Walked Got
gather_from all s a = walk begins_change change_size (gather_one all) s a

pub gather_on : (all : ℕ) (s : List ℕ) (a : Got) → begins_change s ≡ true → gather_from all s a ≡ gather_from all (drop (change_size s) s) (gather_one all a s)
gather_on all s a e = walk_on begins_change change_size (gather_one all) size_moves s a e

pub gathered_none : (keys s : List ℕ) → begins_change s ≡ false → gathered keys s ≡ got_none keys
unfolding gathered
gathered_none keys s e = ap (λ (w : Walked Got). w.known) (walk_ends begins_change change_size (gather_one (length s)) size_moves s (got_none keys) e)

-- one alone: no other stands behind it
pub gathered_one : (keys s : List ℕ) → begins_change s ≡ true → begins_change (drop (change_size s) s) ≡ false → gathered keys s ≡ gather_one (length s) (got_none keys) s
unfolding gathered
gathered_one keys s e z =
    let a = gather_one (length s) (got_none keys) s in
    ap (λ (w : Walked Got). w.known)
    (gather_on (length s) s (got_none keys) e ∙ walk_ends begins_change change_size (gather_one (length s)) size_moves (drop (change_size s) s) a z)

pub here_long : (s : List ℕ) → (change_here s).len ≡ change_size s
here_long s = change_long 0 0 (length s) 0 0 0 s None None

pub one_at : (all : ℕ) (a : Got) (s : List ℕ) → (gather_one all a s).at ≡ min (a.at + change_size s) all
unfolding gather_one
one_at all a s = ap (λ (n : ℕ). min (a.at + n) all) (here_long s)

one_long : (all : ℕ) (a : Got) (s : List ℕ) → length (gather_one all a s).keys ≡ length a.keys
unfolding gather_one
one_long all a s = length-sets a.keys a.used (key_text s (change_here s))

-- ---- the loop

-- the first g .at bytes are read, and g and its keys are what was got of them
pub record Gathering (s keys₀ keys : List ℕ) (g : Gathered) : Type 0 where
  pub inside : g.at ≤ length s
  pub got : Got
  pub is : Is got keys g
  pub same : length got.keys ≡ length keys₀
  pub left : gather_from (length s) s (got_none keys₀) ≡ gather_from (length s) (drop g.at s) got

pub begin : {s keys : List ℕ} {slots : List Slot} → slots ≡ no_slots → Gathering s keys keys (record { slots = slots; used = 0; at = 0 })
begin {s} {keys} {slots} z =
    record {
      inside = omega arith;
      got = got_none keys;
      is = record { slots = z; buffer = refl; used = refl; at = refl };
      same = refl;
      left = refl;
    }

module _ {s keys₀ keys : List ℕ} {g : Gathered} (p : Gathering s keys₀ keys g) where
  pub same_long : length keys ≡ length keys₀
  same_long = ap length p.is.buffer ∙ p.same

  module _ {r : List ℕ} (pr : r ≡ drop g.at s) where
    module _ {keys' : List ℕ} {h : Gathered} (e : begins_change r ≡ true) (q : GathersOne g s keys keys' h) where
      here : begins_change (drop g.at s) ≡ true
      here = rw pr at e

      at_is : h.at ≡ g.at + change_size (drop g.at s)
      at_is =
          let t = drop g.at s in
          let m = size_moves t here in
          let i = p.inside in
          omega (arith, (grows_is q p.got p.is).at, one_at (length s) p.got t, p.is.at, length-drop g.at s)

      -- it takes up a byte or more of what is left
      pub moves : (g.at + 1 ≤ h.at) × (h.at ≤ length s)
      moves =
          let m = size_moves (drop g.at s) here in
          let i = p.inside in
          let a = at_is in
          (omega arith, omega (arith, length-drop g.at s))

      pub turn : Gathering s keys₀ keys' h
      turn =
          let t = drop g.at s in
          let a = p.got in
          let b = gather_one (length s) a t in
          record {
            inside = moves.1;
            got = b;
            is = grows_is q a p.is;
            same = one_long (length s) a t ∙ p.same;
            left = p.left ∙ gather_on (length s) t a here
                ∙ ap (λ (z : List ℕ). gather_from (length s) z b) (drop-drop (change_size t) g.at s ∙ ap (λ (n : ℕ). drop n s) (sym at_is));
          }

    pub ends : begins_change r ≡ false → Gathers s keys₀ keys g
    unfolding gathered
    ends e =
        let t = drop g.at s in
        let z : begins_change t ≡ false = rw pr at e in
        let w = p.left ∙ walk_ends begins_change change_size (gather_one (length s)) size_moves t p.got z in
        subst (λ (a : Got). Is a keys g) (sym (ap (λ (w : Walked Got). w.known) w)) p.is

-- ---- what is stored

pub stores_none : {s d : List ℕ} {j : ℕ} {c : Cursors} → length d ≤ max_place → begins_change s ≡ false → StoresChanges s j d c d (record { n = 0; len = 0; cursors = c })
unfolding change_events
stores_none {s} {d} {j} {c} h e =
    let q = gathered_none no_keys s e in
    record {
      n = ap (λ (a : Got). length a.slots) (sym q);
      len = ap (λ (a : Got). a.at) (sym q);
      ran = ran_as (ran_none h) (ap (λ (a : Got). flat (slot_events j s) a.slots) (sym q));
    }

-- where l are the slots that are held
pub stores_all : {s d e keys : List ℕ} {j : ℕ} {c k : Cursors} {g : Gathered} {l : List Slot} → Gathers s no_keys keys g → l ≡ g.slots → Ran d c (slots_events j s l) e k
    → StoresChanges s j d c e (record { n = length l; len = g.at; cursors = k })
unfolding change_events
stores_all {s} {j = j} g h r =
    let all = h ∙ g.slots in
    record { n = ap length all; len = g.at; ran = ran_as r (ap (flat (slot_events j s)) all) }
