-- Document 01, "Numbers of refusal", and document 02, M-112 and M-113: what reading, writing and converting answer, and every byte of the output. Assumes nothing.
use Rattle.std.specs.Prelude.{ℕ, ◌-◌, ◌<◌, ◌≤◌, ◌≡◌, List, ◌++◌, T, length, replicate}
use Rattle.lang.specs.Parts.{silent, written}
use Rattle.lang.specs.Order.{Each}
use Rattle.lang.specs.Mark.{Mark, Kept, Wins}
use Rattle.rules.specs.Lines.{Spelling, line_text, within, Misshapen}
use Rattle.rules.specs.Fields.{Table, Says}
use Rattle.rules.specs.Limits.{max_line, line_marks}
use Rattle.rules.specs.House.{first_foreign, first_breach, first_excess}
use Rattle.rules.specs.Preferred.{preferred, preferred_spelling}
use Rattle.rules.specs.Editions.{Edition, ed1, current, LineEdition, lines_of}
use Rattle.rules.specs.Stored.{stored}

-- an answer, with all bytes of the output
pub record Answer : Type 0 where
  pub number : ℕ
  pub place : ℕ
  pub size : ℕ
  pub out : List ℕ

-- a refusal: the output holds zeros throughout
abbrev pub refuses : ℕ → ℕ → ℕ → Answer
refuses room number place = record { number = number; place = place; size = 0; out = replicate room 0 }

-- 0, done: the result, and zeros after it
abbrev pub gives : ℕ → List ℕ → Answer
gives room result = record { number = 0; place = 0; size = length result; out = result ++ replicate (room - length result) 0 }

-- a result, in an output of room bytes: 8, or done
pub data Delivers (room : ℕ) (result : List ℕ) : Answer → Type 0 where
  no_room : room < length result → Delivers room result (refuses room 8 (length result))
  done : length result ≤ room → Delivers room result (gives room result)

-- ---- reading: 1; then 2 or 3; then 4 and 5; then 11; 6; 7; 8

-- of a spelling within the limits and rules for one annotation, to a table of edition e
pub data ReadsSum (e : Edition) (s : Spelling) (room : ℕ) : Answer → Type 0 where
  excess : (place : ℕ) → first_excess 0 0 s ≡ written place → ReadsSum e s room (refuses room 7 place)
  kept : first_excess 0 0 s ≡ silent → (t : Table) → Each Says s t → {a : Answer} → Delivers room (stored e t) a → ReadsSum e s room a

-- of a spelling within the limits whose sequences are of the form that the edition asks for
pub data ReadsRules (e : Edition) (s : Spelling) (room : ℕ) : Answer → Type 0 where
  breach : (place : ℕ) → first_breach e 0 s ≡ written place → ReadsRules e s room (refuses room 6 place)
  kept : first_breach e 0 s ≡ silent → {a : Answer} → ReadsSum e s room a → ReadsRules e s room a

-- of a spelling within the limits
pub data ReadsForm (e : Edition) (s : Spelling) (room : ℕ) : Answer → Type 0 where
  foreign : (place : ℕ) → first_foreign e 0 s ≡ written place → ReadsForm e s room (refuses room 11 place)
  kept : first_foreign e 0 s ≡ silent → {a : Answer} → ReadsRules e s room a → ReadsForm e s room a

-- of a line with a shape
pub data ReadsSpelling (e : Edition) (s : Spelling) (room : ℕ) : Answer → Type 0 where
  limit : (m : Mark) → Wins (line_marks s) m → ReadsSpelling e s room (refuses room m.number m.place)
  kept : Kept (line_marks s) → {a : Answer} → ReadsForm e s room a → ReadsSpelling e s room a

-- in an edition of lines
pub data Reads (l : LineEdition) (line : List ℕ) (room : ℕ) : Answer → Type 0 where
  long : max_line < length line → Reads l line room (refuses room 1 max_line)
  misshapen : length line ≤ max_line → {number place : ℕ} → Misshapen l line number place → Reads l line room (refuses room number place)
  spelled : length line ≤ max_line → (s : Spelling) → T (within l s) → line_text s ≡ line → {a : Answer} → ReadsSpelling current s room a → Reads l line room a

-- ---- writing: 9, 10, 20, 1, 8

-- some line of an edition of lines, of any length, spells the table within limits and house rules, as the edition of the table has them
pub record SoundIn (l : LineEdition) (e : Edition) (t : Table) : Type 0 where
  pub spelling : Spelling
  pub edition : T (within l spelling)
  pub says : Each Says spelling t
  pub limits : Kept (line_marks spelling)
  pub form : first_foreign e 0 spelling ≡ silent
  pub rules : first_breach e 0 spelling ≡ silent
  pub sum : first_excess 0 0 spelling ≡ silent

-- of the lines that are the edition's own
abbrev pub Sound : Edition → Table → Type 0
Sound e t = SoundIn (lines_of e) e t

-- stored bytes are a table of an edition
pub record Holds (e : Edition) (bytes : List ℕ) (t : Table) : Type 0 where
  pub sound : Sound e t
  pub is : stored e t ≡ bytes

-- stored bytes are a table that can be read today: one of an edition, of which the current edition's table of the same fields is one too
pub record Takes (bytes : List ℕ) (t : Table) : Type 0 where
  pub edition : Edition
  pub holds : Holds edition bytes t
  pub also : Sound current t

-- in an edition of lines: a table whose line has letters is 20 in the first
pub data Writes (l : LineEdition) (bytes : List ℕ) (room : ℕ) : Answer → Type 0 where
  no_table : ((t : Table) → Takes bytes t → ⊥) → Writes l bytes room (refuses room 9 0)
  old : (t : Table) → Holds ed1 bytes t → Sound current t → Writes l bytes room (refuses room 10 0)
  lettered : (t : Table) → Holds current bytes t → (T (within l (preferred_spelling t)) → ⊥) → Writes l bytes room (refuses room 20 0)
  long : (t : Table) → Holds current bytes t → T (within l (preferred_spelling t)) → max_line < length (preferred t) → Writes l bytes room (refuses room 1 max_line)
  fits : (t : Table) → Holds current bytes t → T (within l (preferred_spelling t)) → length (preferred t) ≤ max_line → {a : Answer} → Delivers room (preferred t) a
      → Writes l bytes room a

-- ---- converting a table of edition 1: 9; then what reading its line answers behind the limits, however long it is: 11, 6, 8

pub data Converts (bytes : List ℕ) (room : ℕ) : Answer → Type 0 where
  no_table : ((t : Table) → Holds ed1 bytes t → ⊥) → Converts bytes room (refuses room 9 0)
  held : (t : Table) → Holds ed1 bytes t → {a : Answer} → ReadsForm current (preferred_spelling t) room a → Converts bytes room a
