-- Two answers that meet a contract of this crate are equal. Assumes nothing.
use Prim.Native.Nat.{ℕ}
use mathlib.Core.Path.{◌≡◌, refl, sym, ap, ap₂, ◌∙◌}
use mathlib.Core.Bool.{true≢false}
use mathlib.Core.List.{List}
use lib.ListN.{length, drop}
use Rattle.put_bytes.proofs.One.{put_one}
use Rattle.print_count.specs.declared.Respelled.{Respelled}
use Rattle.print_count.proofs.One.{respelled_one}
use Rattle.store_sections.specs.declared.Cursors.{Cursors}
use Rattle.store_sections.proofs.One.{ran_one}
use Rattle.sort_slots.specs.Slots.{with_slot}
use Rattle.sort_changes.specs.declared.Gathered.{Gathered}
use Rattle.sort_changes.specs.declared.Arranged.{Arranged}
use Rattle.sort_changes.specs.declared.Begins.{Begins}
use Rattle.sort_changes.specs.declared.Begins.TheVariants.{None, One, Several}
use Rattle.sort_changes.specs.Gathered.{Got, slot_from, change_here, Is, GathersOne, Gathers}
use Rattle.sort_changes.specs.Ways.{BeginsSo}
use Rattle.sort_changes.specs.Events.{StoresChanges}
use Rattle.sort_changes.specs.Spelled.{SpellsMany, SpellsChanges}

-- ---- slots and keys

pub is_one : {a : Got} {keys more : List ℕ} {g h : Gathered} → Is a keys g → Is a more h → (keys ≡ more) × (g ≡ h)
is_one x y =
    let slots = x.slots ∙ sym y.slots in
    let used = x.used ∙ sym y.used in
    let at = x.at ∙ sym y.at in
    (x.buffer ∙ sym y.buffer, λ i. record { slots = slots i; used = used i; at = at i })

pub grows_one : {g : Gathered} {s d keys more : List ℕ} {r q : Gathered} → GathersOne g s d keys r → GathersOne g s d more q → (keys ≡ more) × (r ≡ q)
grows_one {g} {s} x y =
    let e = put_one x.put y.put in
    let x₀ = change_here (drop g.at s) in
    let same = ap₂ (λ (z : List ℕ) (n : ℕ). with_slot z g.slots (slot_from (length s) g.at g.used x₀ n)) e.0 e.1 in
    let slots = x.slots ∙ same ∙ sym y.slots in
    let at = x.at ∙ sym y.at in
    (e.0, λ i. record { slots = slots i; used = e.1 i; at = at i })

pub gathers_one : (s d : List ℕ) {keys more : List ℕ} {g h : Gathered} → Gathers s d keys g → Gathers s d more h → (keys ≡ more) × (g ≡ h)
gathers_one s d x y = is_one x y

-- ---- how many there are

pub begins_so_one : (s : List ℕ) (r q : Begins) → BeginsSo s r → BeginsSo s q → r ≡ q
begins_so_one s None None a b = refl
begins_so_one s None (One y) a b = absurd (true≢false (sym b.here ∙ a))
begins_so_one s None Several a b = absurd (true≢false (sym b.here ∙ a))
begins_so_one s (One x) None a b = absurd (true≢false (sym a.here ∙ b))
begins_so_one s (One x) (One y) a b = ap One (a.is ∙ sym b.is)
begins_so_one s (One x) Several a b = absurd (true≢false (sym b.next ∙ a.last))
begins_so_one s Several None a b = absurd (true≢false (sym a.here ∙ b))
begins_so_one s Several (One y) a b = absurd (true≢false (sym a.next ∙ b.last))
begins_so_one s Several Several a b = refl

-- ---- stored, and spelled anew

pub stores_changes_one : {s d e f : List ℕ} {j : ℕ} {c : Cursors} {r q : Arranged} → StoresChanges s j d c e r → StoresChanges s j d c f q → (e ≡ f) × (r ≡ q)
stores_changes_one a b =
    let e = ran_one a.ran b.ran in
    let n = a.n ∙ sym b.n in
    let len = a.len ∙ sym b.len in
    (e.0, λ i. record { n = n i; len = len i; cursors = e.1 i })

pub spells_many_one : {s d e f : List ℕ} {to : ℕ} {r q : Respelled} → SpellsMany s d to e r → SpellsMany s d to f q → (e ≡ f) × (r ≡ q)
spells_many_one a b = respelled_one a.len a.put b.len b.put

pub spells_changes_one : {s d e f : List ℕ} {to : ℕ} {r q : Respelled} → SpellsChanges s d to e r → SpellsChanges s d to f q → (e ≡ f) × (r ≡ q)
spells_changes_one a b = respelled_one a.len a.put b.len b.put
