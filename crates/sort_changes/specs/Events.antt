-- Losses, or adduct items, stored from slots: each its record, and its units or its name. Assumes nothing.
use Rattle.std.specs.Prelude.{ℕ, ◌+◌, ◌*◌, ◌≡◌, List, [], ◌∷◌, length, take, drop, replicate}
use Rattle.lang.specs.Parts.{flat}
use Rattle.rules.specs.Stored.{u8, u16, stores}
use Rattle.rules.specs.Limits.{max_losses, max_text}
use Rattle.rules.specs.Layout.{unit_section, text_section}
use Rattle.changes.specs.declared.Content.{Content}
use Rattle.changes.specs.declared.Content.TheVariants.{Formula, Name, Electron}
use Rattle.changes.specs.Signs.{sign_number}
use Rattle.changes.specs.Contents.{content_number, content_size}
use Rattle.put_formula.specs.Records.{records_of}
use Rattle.sort_slots.specs.declared.Slot.{Slot}
use Rattle.store_sections.specs.declared.Cursors.{Cursors}
use Rattle.store_sections.specs.Pages.{Event, Ran}
use Rattle.sort_changes.specs.declared.Arranged.{Arranged}
use Rattle.sort_changes.specs.Gathered.{gathered}

-- sign, kind, count, units or name bytes
abbrev pub slot_record : Slot → List ℕ
slot_record x = stores (u8 (sign_number x.sign) ∷ u8 (content_number x.content) ∷ u16 x.count ∷ u16 (content_size x.content) ∷ [])

-- of the bytes s behind sign and count, units go to their section, a name to that of texts
abbrev pub content_events : List ℕ → Content → List Event
content_events s (Formula units) = (unit_section, records_of units s) ∷ []
content_events s (Name bytes) = (text_section, take bytes (drop 1 s)) ∷ []
content_events s Electron = []

unfoldable pub slot_events : ℕ → List ℕ → Slot → List Event
slot_events j s x = (j, slot_record x) ∷ content_events (drop x.start s) x.content

abbrev pub slots_events : ℕ → List ℕ → List Slot → List Event
slots_events j s slots = flat (slot_events j s) slots

-- the bytes of the keys: as many names as there may be losses, in their brackets
abbrev pub keys_size : ℕ
keys_size = max_losses * (max_text + 2)

abbrev pub no_keys : List ℕ
no_keys = replicate keys_size 0

-- what stands behind all losses, or adduct items, that the bytes s begin with
abbrev pub behind_changes : List ℕ → List ℕ
behind_changes s = drop (gathered no_keys s).at s

-- the events of all that the bytes s begin with
unfoldable pub change_events : ℕ → List ℕ → List Event
change_events j s = flat (slot_events j s) (gathered no_keys s).slots

pub record StoresChanges (s : List ℕ) (j : ℕ) (d : List ℕ) (c : Cursors) (e : List ℕ) (r : Arranged) : Type 0 where
  pub n : r.n ≡ length (gathered no_keys s).slots
  pub len : r.len ≡ (gathered no_keys s).at
  pub ran : Ran d c (change_events j s) e r.cursors
