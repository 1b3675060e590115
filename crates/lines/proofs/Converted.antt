-- Conversion: what it gives is the table of edition 2 that has the fields of the old one, that is written as its line, and that reading this line gives;
-- with how long an output it is never too short; and which numbers it answers. Assumes nothing.
use Prim.Native.Nat.{ℕ, ◌+◌, ◌≤◌}
use mathlib.Core.Path.{◌≡◌, refl, sym, ap, subst}
use mathlib.Core.Bool.{Bool, ◌||◌}
use mathlib.Core.List.{List}
use native.Mathlib.Omega.{arith}
use lib.Dec.{T, eqb}
use lib.ListN.{length, take}
use Rattle.lang.specs.Parts.{silent, written}
use Rattle.lang.specs.Order.{Each}
use Rattle.rules.specs.Fields.{Table, Says}
use Rattle.rules.specs.House.{first_foreign, first_breach}
use Rattle.rules.specs.Lines.{Spelling, within}
use Rattle.rules.specs.Limits.{max_line, max_annotations}
use Rattle.rules.specs.Preferred.{preferred, preferred_spelling}
use Rattle.rules.specs.Stored.{stored}
use Rattle.rules.specs.Answers.{Answer, refuses, gives, Delivers, no_room, done, Sound, Holds, Reads, ReadsForm, foreign, ReadsRules, breach, ReadsSum, excess, Writes, Converts, held}
use Rattle.rules.specs.Largest.{max_any_table}
use Rattle.rules.specs.Editions.{ed1, ed2, current, LineEdition, first_lines, second_lines}
use Rattle.rules.proofs.Bounds.{table_few}
use Rattle.rules.proofs.Lengths.{added_is, stored_length}
use Rattle.rules.proofs.OneAnswer.{written_not_silent}
use Rattle.rules.proofs.OneTable as OneTable
use Rattle.rules.proofs.PreferredSpells.{said_in_order, preferred_says, preferred_within}
use Rattle.rules.proofs.Sizes.{sizes_fit}
use Rattle.rules.proofs.SoundEditions.{sound_in}
use Rattle.shape.proofs.OneSpelling.{one_spelling}
use Rattle.shape.proofs.Unambiguous.{reads_one, converts_one}
use Rattle.write_table.proofs.Prefers.{preferred_kept, preferred_form, preferred_rules, preferred_sum}
use Rattle.write_table.proofs.Holds.{take_given}
use Rattle.lines.proofs.Enough.{delivers_enough}
use Rattle.lines.proofs.Back.{reads_preferred, HandsOver, hands_over}

-- ---- an old table, and what reading its preferred line behind the limits answers

module _ {bytes : List ℕ} (t : Table) (h : Holds ed1 bytes t) (room : ℕ) where
  -- the line keeps what is left to ask, so that the table is sound today, and its stored bytes are handed over
  pub record Read (a : Answer) : Type 0 where
    pub sound : Sound current t
    pub delivers : Delivers room (stored current t) a

  says : Each Says (preferred_spelling t) t
  says = preferred_says (said_in_order h.sound.says)

  -- which answers there are: 11, 6, or a table; the sum of an old table is at most 1
  pub data Answers : Answer → Type 0 where
    form : (place : ℕ) → first_foreign current 0 (preferred_spelling t) ≡ written place → Answers (refuses room 11 place)
    rule : (place : ℕ) → first_breach current 0 (preferred_spelling t) ≡ written place → Answers (refuses room 6 place)
    read : {a : Answer} → Read a → Answers a

  sum_answers : first_foreign current 0 (preferred_spelling t) ≡ silent → first_breach current 0 (preferred_spelling t) ≡ silent
      → {a : Answer} → ReadsSum current (preferred_spelling t) room a → Answers a
  sum_answers f r (excess p z) = absurd (written_not_silent _ z (preferred_sum t h.sound))
  sum_answers f r {a} (ReadsSum.kept z u y d) =
      read (record {
        sound = record { spelling = preferred_spelling t; edition = tt; says = says; limits = preferred_kept t h.sound; form = f; rules = r; sum = z };
        delivers = subst (λ (x : Table). Delivers room (stored current x) a) (OneTable.one_table one_spelling y says) d;
      })

  rules_answers : first_foreign current 0 (preferred_spelling t) ≡ silent → {a : Answer} → ReadsRules current (preferred_spelling t) room a → Answers a
  rules_answers f (breach p z) = rule p z
  rules_answers f (ReadsRules.kept z x) = sum_answers f z x

  pub form_answers : {a : Answer} → ReadsForm current (preferred_spelling t) room a → Answers a
  form_answers (foreign p z) = form p z
  form_answers (ReadsForm.kept z x) = rules_answers z x

-- ---- back again

-- a spelling of the first edition of lines is one of each
within_any : (l : LineEdition) (s : Spelling) → T (within first_lines s) → T (within l s)
within_any first_lines s w = w
within_any second_lines s w = tt

-- the result is the table of the current edition of the same fields; in each edition of lines it is written as its line, and where that is short enough, reading it gives
-- the result
pub record ConvertsBack (bytes result : List ℕ) : Type 0 where
  pub table : Table
  pub was : Holds ed1 bytes table
  pub is : Holds current result table
  pub writes : (l : LineEdition) (room : ℕ) (b : Answer) → Writes l result room b → HandsOver room (preferred table) b
  pub reads : (l : LineEdition) → length (preferred table) ≤ max_line → (room : ℕ) (b : Answer) → length result ≤ room → Reads l (preferred table) room b → b ≡ gives room result

given_back : {bytes : List ℕ} (t : Table) → Holds ed1 bytes t → Sound current t → ConvertsBack bytes (stored current t)
given_back t h s =
    let own = preferred_within first_lines h.sound.says h.sound.edition in
    record {
      table = t;
      was = h;
      is = record { sound = s; is = refl };
      writes = λ l room b w. hands_over t (record { sound = s; is = refl }) (within_any l (preferred_spelling t) own) w;
      reads = λ l k room b g r. reads_one r (reads_preferred l t s (within_any l (preferred_spelling t) own) k room g);
    }

delivered_back : {bytes : List ℕ} (t : Table) → Holds ed1 bytes t → Sound current t → {room : ℕ} {a : Answer} → Delivers room (stored current t) a → a.number ≡ 0
    → ConvertsBack bytes (take a.size a.out)
delivered_back t h s (no_room g) e = absurd (omega arith)
delivered_back {bytes} t h s {room} (done g) e = subst (ConvertsBack bytes) (sym (take_given room (stored current t))) (given_back t h s)

pub convert_back : {bytes : List ℕ} {room : ℕ} {a : Answer} → Converts bytes room a → a.number ≡ 0 → ConvertsBack bytes (take a.size a.out)
convert_back (Converts.no_table n) e = absurd (omega arith)
convert_back {bytes} {room} (held t h x) e = by (form_answers t h room x) e
  where
    by : {a : Answer} → Answers t h room a → a.number ≡ 0 → ConvertsBack bytes (take a.size a.out)
    by (form p z) e = absurd (omega arith)
    by (rule p z) e = absurd (omega arith)
    by (read y) e = delivered_back t h y.sound y.delivers e

-- and every line of the first edition that can be read today: the bytes that its table had in edition 1 are converted to those that it has now
pub old_converted : (t : Table) (s : Sound current t) → T (within first_lines s.spelling) → (room : ℕ) → length (stored current t) ≤ room → {a : Answer} → Converts (stored ed1 t) room a → a ≡ gives room (stored current t)
old_converted t s own room g x =
    converts_one x
    (held t (record { sound = sound_in ed1 t s own; is = refl })
    (ReadsForm.kept (preferred_form current t s)
    (ReadsRules.kept (preferred_rules current t s) (ReadsSum.kept (preferred_sum t s) t (preferred_says (said_in_order s.says)) (done g)))))

-- ---- an output that is never too short: two bytes more for each annotation, or as many as any table has

longer : {bytes : List ℕ} (t : Table) → Holds ed1 bytes t → length (stored current t) ≤ length bytes + (max_annotations + max_annotations)
longer t h =
    omega (arith, stored_length ed1 t, stored_length ed2 t, added_is ed1 t, added_is ed2 t, table_few t h.sound, ap length h.is)

-- of an old table's answers, in an output that holds its table of the current edition
answers_enough : {bytes : List ℕ} (t : Table) (h : Holds ed1 bytes t) (room : ℕ) → length (stored current t) ≤ room → {a : Answer} → Answers t h room a → a.number ≡ 8 → ⊥
answers_enough t h room g (form p z) e = omega arith
answers_enough t h room g (rule p z) e = omega arith
answers_enough t h room g (read y) e = delivers_enough y.delivers g e

pub convert_enough : {bytes : List ℕ} {room : ℕ} {a : Answer} → Converts bytes room a → length bytes + (max_annotations + max_annotations) ≤ room → a.number ≡ 8 → ⊥
convert_enough (Converts.no_table n) g e = omega arith
convert_enough {room = room} (held t h x) g e = answers_enough t h room (omega (arith, longer t h)) (form_answers t h room x) e

pub convert_largest : {bytes : List ℕ} {room : ℕ} {a : Answer} → Converts bytes room a → max_any_table ≤ room → a.number ≡ 8 → ⊥
convert_largest (Converts.no_table n) g e = omega arith
convert_largest {room = room} (held t h x) g e = answers_enough t h room (omega (arith, sizes_fit current t h.sound)) (form_answers t h room x) e

-- ---- its numbers: 0, 6, 8, 9, 11; so never 1, however long the line

abbrev pub is_converts : ℕ → Bool
is_converts n = eqb n 0 || (eqb n 6 || (eqb n 8 || (eqb n 9 || eqb n 11)))

delivers_numbers : {room : ℕ} {w : List ℕ} {a : Answer} → Delivers room w a → T (is_converts a.number)
delivers_numbers (no_room g) = tt
delivers_numbers (done g) = tt

answers_numbers : {bytes : List ℕ} (t : Table) (h : Holds ed1 bytes t) (room : ℕ) {a : Answer} → Answers t h room a → T (is_converts a.number)
answers_numbers t h room (form p z) = tt
answers_numbers t h room (rule p z) = tt
answers_numbers t h room (read y) = delivers_numbers y.delivers

pub convert_numbers : {bytes : List ℕ} {room : ℕ} {a : Answer} → Converts bytes room a → T (is_converts a.number)
convert_numbers (Converts.no_table n) = tt
convert_numbers {room = room} (held t h x) = answers_numbers t h room (form_answers t h room x)
