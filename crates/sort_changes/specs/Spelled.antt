-- Losses, or adduct items, spelled anew in preferred order. Assumes nothing.
use Rattle.std.specs.Prelude.{ℕ, ◌≡◌, cond, List, [], ◌++◌, drop}
use Rattle.lang.specs.Parts.{flat}
use Rattle.put_bytes.specs.Puts.{Put}
use Rattle.print_count.specs.declared.Respelled.{Respelled}
use Rattle.print_count.specs.Heads.{head_text}
use Rattle.read_opening.specs.Heads.{begins_change}
use Rattle.read_changes.specs.Rows.{change_size}
use Rattle.sort_slots.specs.declared.Slot.{Slot}
use Rattle.sort_slots.specs.Slots.{slot_text}
use Rattle.sort_changes.specs.Keys.{key_text}
use Rattle.sort_changes.specs.Gathered.{change_here, gathered}
use Rattle.sort_changes.specs.Events.{no_keys}

-- sign and count, and the text by which it was put in order
unfoldable pub slot_spelled : List ℕ → Slot → List ℕ
slot_spelled keys x = head_text x.sign x.count ++ slot_text keys x

abbrev pub slots_spelled : List ℕ → List Slot → List ℕ
slots_spelled keys slots = flat (slot_spelled keys) slots

-- all that the bytes s begin with, in preferred order
unfoldable pub many_spelled : List ℕ → List ℕ
many_spelled s = flat (slot_spelled (gathered no_keys s).keys) (gathered no_keys s).slots

pub record SpellsMany (s d : List ℕ) (to : ℕ) (e : List ℕ) (r : Respelled) : Type 0 where
  pub len : r.len ≡ (gathered no_keys s).at
  pub put : Put d to (many_spelled s) e r.to

-- one alone
unfoldable pub one_spelled : List ℕ → List ℕ
one_spelled s = head_text (change_here s).sign (change_here s).count ++ key_text s (change_here s)

unfoldable pub changes_spelled : List ℕ → List ℕ
changes_spelled s = cond (begins_change s) (cond (begins_change (drop (change_size s) s)) (many_spelled s) (one_spelled s)) []

pub record SpellsChanges (s d : List ℕ) (to : ℕ) (e : List ℕ) (r : Respelled) : Type 0 where
  pub len : r.len ≡ (gathered no_keys s).at
  pub put : Put d to (changes_spelled s) e r.to
