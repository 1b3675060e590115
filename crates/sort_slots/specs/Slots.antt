-- Slots that hold losses or adduct items, and their preferred order. Document 01, "One table, several spellings". Assumes nothing.
use Rattle.std.specs.Prelude.{ℕ, ◌+◌, ◌≤◌, ◌≡◌, Bool, cond, List, [], ◌∷◌, ◌++◌, map, leb, length, take, drop}
use Rattle.lang.specs.Order.{lex_le, insert}
use Rattle.rules.specs.Preferred.{rank}
use Rattle.rules.specs.Limits.{max_losses}
use Rattle.changes.specs.Signs.{sign_number}
use Rattle.sort_slots.specs.declared.Slot.{Slot}

-- the bytes of a text that are there
abbrev pub text_at : List ℕ → ℕ → ℕ → List ℕ
text_at keys key len = take len (drop key keys)

abbrev pub slot_text : List ℕ → Slot → List ℕ
slot_text keys x = text_at keys x.key x.len

-- what is compared, number by number, as `key` of the rules has it: the text, its end, the sign, the count
abbrev pub slot_key : List ℕ → Slot → List ℕ
slot_key keys x = map rank (slot_text keys x) ++ (0 ∷ sign_number x.sign ∷ x.count ∷ [])

unfoldable pub slot_le : List ℕ → Slot → Slot → Bool
slot_le keys x y = lex_le (slot_key keys x) (slot_key keys y)

-- no slots are held
abbrev pub no_slots : List Slot
no_slots = []

-- the slots with x among them, in order; the same slots where all are held
unfoldable pub with_slot : List ℕ → List Slot → Slot → List Slot
with_slot keys l x = cond (leb max_losses (length l)) l (insert (slot_le keys) x l)

-- one after the other inserted into a list
abbrev pub fed_into : {A : Type 0} → (A → A → Bool) → List A → List A → List A
fed_into before s [] = s
fed_into before s (x ∷ xs) = fed_into before (insert before x s) xs

abbrev pub feed : List ℕ → List Slot → List Slot
feed keys xs = fed_into (slot_le keys) [] xs

-- the slots are xs, fed one by one
pub record Holds (keys : List ℕ) (xs s : List Slot) : Type 0 where
  pub count : length s ≡ length xs
  pub slots : s ≡ feed keys xs

-- the text ends at the place `used` or before it
pub record EndsBy (used : ℕ) (x : Slot) : Type 0 where
  pub inside : x.key + x.len ≤ used

pub data AllEndBy (used : ℕ) : List Slot → Type 0 where
  none_ends : AllEndBy used []
  next_ends : {x : Slot} {xs : List Slot} → EndsBy used x → AllEndBy used xs → AllEndBy used (x ∷ xs)
