-- Back again: what was written reads to the very table; what was read is written in the preferred spelling of the line; and reading and
-- writing one after the other has one answer. Assumes nothing.
use Prim.Native.Nat.{ℕ, ◌+◌, ◌<◌, ◌≤◌, min}
use mathlib.Core.Path.{◌≡◌, refl, sym, ap, ◌∙◌, subst}
use mathlib.Core.List.{List}
use native.Mathlib.Omega.{arith}
use lib.Dec.{T}
use lib.ListN.{length, take}
use Rattle.rules.specs.Fields.{Table, Spells}
use Rattle.rules.specs.Lines.{within}
use Rattle.rules.specs.Limits.{max_line, max_annotations}
use Rattle.rules.specs.Preferred.{preferred, preferred_spelling}
use Rattle.rules.specs.Stored.{stored}
use Rattle.rules.specs.Answers.{Answer, refuses, gives, Delivers, no_room, done, Sound, Holds, Reads, ReadsSpelling, ReadsForm, ReadsRules, ReadsSum, Writes, no_table, old, lettered, long, fits}
use Rattle.rules.specs.Largest.{max_table}
use Rattle.rules.specs.Editions.{current, LineEdition}
use Rattle.rules.proofs.Bounds.{each_length, table_few}
use Rattle.rules.proofs.PreferredSpells.{said_in_order, preferred_says, preferred_within}
use Rattle.rules.proofs.OneWriting.{taken}
use Rattle.rules.proofs.WritesOne.{holds_one, two_editions, writes_one}
use Rattle.shape.proofs.Unambiguous.{reads_one}
use Rattle.write_table.proofs.Prefers.{preferred_kept, preferred_form, preferred_rules, preferred_sum}
use Rattle.write_table.proofs.Longer.{preferred_longer}
use Rattle.write_table.proofs.Holds.{take_given}
use Rattle.lines.specs.Relabels.{Relabels, refused, relabelled}
use Rattle.lines.proofs.Enough.{delivers_enough, read_enough}
use Rattle.lines.proofs.Right.{reads_table, bytes_read, holds_read}

-- ---- reading what was written

-- the preferred line of a sound table, within its bound, reads to the table
pub reads_preferred : (l : LineEdition) (t : Table) → Sound current t → T (within l (preferred_spelling t)) → length (preferred t) ≤ max_line → (room : ℕ) → length (stored current t) ≤ room → Reads l (preferred t) room (gives room (stored current t))
reads_preferred l t s i k room h =
    Reads.spelled k (preferred_spelling t) i refl
    (ReadsSpelling.kept (preferred_kept t s)
    (ReadsForm.kept (preferred_form current t s)
    (ReadsRules.kept (preferred_rules current t s) (ReadsSum.kept (preferred_sum t s) t (preferred_says (said_in_order s.says)) (done h)))))

delivered_back : (l : LineEdition) (t : Table) → Sound current t → T (within l (preferred_spelling t)) → length (preferred t) ≤ max_line → {room : ℕ} {a : Answer} → Delivers room (preferred t) a → a.number ≡ 0
    → (room' : ℕ) → length (stored current t) ≤ room' → Reads l (take a.size a.out) room' (gives room' (stored current t))
delivered_back l t s i k (no_room h) e room' g = absurd (omega arith)
delivered_back l t s i k {room} (done h) e room' g =
    subst (λ (w : List ℕ). Reads l w room' (gives room' (stored current t))) (sym (take_given room (preferred t))) (reads_preferred l t s i k room' g)

-- what was written is the line of the table that the bytes are; reading it gives these very bytes
pub record ReadsBack (l : LineEdition) (bytes line : List ℕ) : Type 0 where
  pub table : Table
  pub holds : Holds current bytes table
  pub reads : (room' : ℕ) → length (stored current table) ≤ room' → Reads l line room' (gives room' (stored current table))

pub read_back : {l : LineEdition} {bytes : List ℕ} {room : ℕ} {a : Answer} → Writes l bytes room a → a.number ≡ 0 → ReadsBack l bytes (take a.size a.out)
read_back (no_table n) e = absurd (omega arith)
read_back (old t h o) e = absurd (omega arith)
read_back (lettered t h n) e = absurd (omega arith)
read_back (long t h i k) e = absurd (omega arith)
read_back {l} (fits t h i k d) e = record { table = t; holds = h; reads = λ room' g. delivered_back l t h.sound i k d e room' g }

-- in some answer, and so in every one
pub read_back_one : {l : LineEdition} {bytes : List ℕ} {room room' : ℕ} {a b : Answer} → Writes l bytes room a → a.number ≡ 0 → length bytes ≤ room'
    → Reads l (take a.size a.out) room' b → b ≡ gives room' bytes
read_back_one {room' = room'} w e g r =
    let x = read_back w e in
    let q = x.holds.is in
    reads_one r (x.reads room' (omega (arith, ap length q))) ∙ ap (gives room') q

-- ---- writing what was read

-- a line that is to be written: 1 where it is past its bound, else 8, or done
pub data HandsOver (room : ℕ) (line : List ℕ) : Answer → Type 0 where
  past : max_line < length line → HandsOver room line (refuses room 1 max_line)
  inside : length line ≤ max_line → {b : Answer} → Delivers room line b → HandsOver room line b

-- the bytes are this table's: every answer of writing hands over its preferred line
pub hands_over : {l : LineEdition} {bytes : List ℕ} (t : Table) → Holds current bytes t → T (within l (preferred_spelling t)) → {room : ℕ} {b : Answer} → Writes l bytes room b → HandsOver room (preferred t) b
hands_over t h i (no_table n) = absurd (n t (taken h h.sound))
hands_over t h i (old u g o) = absurd (two_editions g h)
hands_over {l} t h i (lettered u g n) = absurd (n (subst (λ (x : Table). T (within l (preferred_spelling x))) (sym (holds_one current current g h)) i))
hands_over t h i {room} (long u g j k) = subst (λ (x : Table). HandsOver room (preferred x) (refuses room 1 max_line)) (holds_one current current g h) (past k)
hands_over t h i {room} {b} (fits u g j k d) = subst (λ (x : Table). HandsOver room (preferred x) b) (holds_one current current g h) (inside k d)

-- what was read, and what it is written as
pub record Written (l : LineEdition) (line bytes : List ℕ) : Type 0 where
  pub table : Table
  pub spells : Spells l table line
  pub is : stored current table ≡ bytes
  pub longer : length (preferred table) ≤ length line + max_annotations
  pub writes : (room : ℕ) (b : Answer) → Writes l bytes room b → HandsOver room (preferred table) b

pub write_back : {l : LineEdition} (line : List ℕ) {room : ℕ} {a : Answer} → Reads l line room a → a.number ≡ 0 → Written l line (take a.size a.out)
write_back {l} line {room} {a} r e =
    let x = reads_table line room r e in
    let t = x.table in
    let q = bytes_read line room x in
    let k : length (preferred t) ≤ length line + max_annotations =
    omega (arith, preferred_longer x.says, ap length x.text, each_length x.says, table_few t x.sound) in
    let h = holds_read line room x in
    record { table = t; spells = record { spelling = x.spelling; edition = x.edition; text = x.text; says = x.says }; is = sym q; longer = k; writes = λ room b w. hands_over t h (preferred_within l x.says x.edition) w }

-- ---- both

-- with number 0, the preferred spelling of what the line spells
pub record Relabelled (l : LineEdition) (line : List ℕ) (room : ℕ) (b : Answer) : Type 0 where
  pub table : Table
  pub spells : Spells l table line
  pub is : b ≡ gives room (preferred table)

given : (t : Table) (room : ℕ) {b : Answer} → HandsOver room (preferred t) b → b.number ≡ 0 → b ≡ gives room (preferred t)
given t room (past l) e = absurd (omega arith)
given t room (inside l (no_room h)) e = absurd (omega arith)
given t room (inside l (done h)) e = refl

pub relabels_preferred : {l : LineEdition} (line : List ℕ) {room : ℕ} {b : Answer} → Relabels l line room b → b.number ≡ 0 → Relabelled l line room b
relabels_preferred line (refused r h) e = absurd (h e)
relabels_preferred line {room} {b} (relabelled r n w) e =
    let x = write_back line r n in
    record { table = x.table; spells = x.spells; is = given x.table room (x.writes room b w) e }

handed_enough : {room : ℕ} {w : List ℕ} {b : Answer} → HandsOver room w b → min (length w) max_line ≤ room → b.number ≡ 8 → ⊥
handed_enough (past l) g e = omega arith
handed_enough (inside l d) g e = delivers_enough d (omega arith) e

-- how many bytes the preferred spelling of a line has at most: one more than the line for each annotation, and no more than a line may have
abbrev pub enough_for : ℕ → ℕ
enough_for n = min (n + max_annotations) max_line

-- an output of so many is never too short
pub relabel_enough : {l : LineEdition} (line : List ℕ) {room : ℕ} {b : Answer} → Relabels l line room b → (length line ≤ max_line → enough_for (length line) ≤ room) → b.number ≡ 8 → ⊥
relabel_enough line (refused r h) large e = read_enough line r (omega arith) e
relabel_enough line {room} {b} (relabelled r n w) large e =
    let x = reads_table line max_table r n in
    let y = write_back line r n in
    let k = large x.short in
    handed_enough (y.writes room b w) (omega (arith, y.longer)) e

-- two answers are equal
pub relabels_one : {l : LineEdition} (line : List ℕ) {room : ℕ} {a b : Answer} → Relabels l line room a → Relabels l line room b → a ≡ b
relabels_one line {room} (refused x h) (refused y g) = ap (λ (a : Answer). refuses room a.number a.place) (reads_one x y)
relabels_one line (refused x h) (relabelled y n w) = absurd (h (ap (λ (a : Answer). a.number) (reads_one x y) ∙ n))
relabels_one line (relabelled x n w) (refused y g) = absurd (g (ap (λ (a : Answer). a.number) (reads_one y x) ∙ n))
relabels_one {l} line {room} (relabelled x n w) (relabelled {b = b} y m v) =
    let q = reads_one y x in writes_one w (subst (λ (a : Answer). Writes l (take a.size a.out) room b) q v)
