-- Two bytes hold each number of the answer to a line or a table: places lie in the line, which has no more than 51,103 bytes where a table is converted,
-- and no table has more than 43,628.
-- Assumes nothing.
use Prim.Native.Nat.{ℕ, ◌≤◌}
use mathlib.Core.Path.{◌≡◌}
use mathlib.Core.List.{List}
use native.Mathlib.Omega.{arith}
use lib.ListN.{length}
use Rattle.lang.specs.Parts.{silent}
use Rattle.lang.specs.Mark.{Kept}
use Rattle.rules.specs.Lines.{Spelling, stray, short}
use Rattle.rules.specs.Limits.{line_marks}
use Rattle.rules.specs.Fields.{Table}
use Rattle.rules.specs.Preferred.{preferred_spelling}
use Rattle.rules.specs.House.{formed, annotation_rules, first_foreign, first_breach}
use Rattle.rules.specs.Editions.{ed1, current, LineEdition}
use Rattle.rules.specs.Answers.{Answer, Delivers, no_room, done, Sound, ReadsSum, ReadsRules, ReadsForm, ReadsSpelling, Reads, Holds, Writes, Converts, held}
use Rattle.rules.proofs.Rises.{line_rises}
use Rattle.rules.proofs.Sizes.{sizes_fit}
use Rattle.print_table.proofs.Short.{longest_line, line_short}
use Rattle.read_row.proofs.LinePlaces.{failing_within, line_length, reads_place}
use Rattle.lines.specs.Relabels.{Relabels, refused, relabelled}
use Rattle.lines.proofs.Converted.{Answers, form, rule, read, form_answers}
use Rattle.pack_answer.specs.Handed.{AtMost, most}

-- what a result of few bytes is answered by
pub delivered_most : {m room : ℕ} {w : List ℕ} {a : Answer} → length w ≤ m → 8 ≤ m → Delivers room w a → AtMost m a
delivered_most h g (no_room l) = record { number = g; place = h; size = omega arith }
delivered_most h g (done l) = record { number = omega arith; place = omega arith; size = h }

-- ---- reading

-- a line and the largest table
abbrev pub most_of_line : ℕ
most_of_line = 47724

module _ (s : Spelling) (room : ℕ) where
  sum_most : Kept (line_marks s) → first_foreign current 0 s ≡ silent → first_breach current 0 s ≡ silent → {a : Answer} → a.place ≤ most_of_line → ReadsSum current s room a → AtMost most_of_line a
  sum_most k f b h (ReadsSum.excess p z) = record { number = omega arith; place = h; size = omega arith }
  sum_most k f b h (ReadsSum.kept z t y d) =
      let w : Sound current t = record { spelling = s; edition = tt; says = y; limits = k; form = f; rules = b; sum = z } in
      delivered_most (omega (arith, sizes_fit current t w)) (omega arith) d

  rules_most : Kept (line_marks s) → first_foreign current 0 s ≡ silent → {a : Answer} → a.place ≤ most_of_line → ReadsRules current s room a → AtMost most_of_line a
  rules_most k f h (ReadsRules.breach p z) = record { number = omega arith; place = h; size = omega arith }
  rules_most k f h (ReadsRules.kept z r) = sum_most k f z h r

  form_most : Kept (line_marks s) → {a : Answer} → a.place ≤ most_of_line → ReadsForm current s room a → AtMost most_of_line a
  form_most k h (ReadsForm.foreign p z) = record { number = omega arith; place = h; size = omega arith }
  form_most k h (ReadsForm.kept z r) = rules_most k z h r

  spelling_most : {a : Answer} → a.place ≤ most_of_line → ReadsSpelling current s room a → AtMost most_of_line a
  spelling_most h (ReadsSpelling.limit m w) =
      record { number = omega (arith, ((line_rises s).within m w.is_in w.broken).number); place = h; size = omega arith }
  spelling_most h (ReadsSpelling.kept k r) = form_most k h r

pub reads_most : {l : LineEdition} {line : List ℕ} {room : ℕ} {a : Answer} → Reads l line room a → AtMost most_of_line a
reads_most (Reads.long h) = record { number = omega arith; place = omega arith; size = omega arith }
reads_most (Reads.misshapen h (stray k s)) = record { number = omega arith; place = omega (arith, s.inside); size = omega arith }
reads_most (Reads.misshapen h (short b n)) = record { number = omega arith; place = omega arith; size = omega arith }
reads_most {l} {line} {room} (Reads.spelled h s w e r) = spelling_most s room (omega (arith, reads_place {l = l} {line = line} {room = room} (Reads.spelled h s w e r))) r

-- ---- writing

-- a line, and the columns before it
abbrev pub most_of_row : ℕ
most_of_row = 4160

pub writes_most : {l : LineEdition} {bytes : List ℕ} {room : ℕ} {a : Answer} → Writes l bytes room a → AtMost most_of_row a
writes_most (Writes.no_table n) = record { number = omega arith; place = omega arith; size = omega arith }
writes_most (Writes.old t h o) = record { number = omega arith; place = omega arith; size = omega arith }
writes_most (Writes.lettered t h n) = record { number = omega arith; place = omega arith; size = omega arith }
writes_most (Writes.long t h w n) = record { number = omega arith; place = omega arith; size = omega arith }
writes_most (Writes.fits t h w n d) = delivered_most (omega arith) (omega arith) d

-- ---- converting: the line of an old table may be longer than one that is read

abbrev pub most_of_converted : ℕ
most_of_converted = longest_line

pub converted_most : {bytes : List ℕ} (t : Table) (h : Holds ed1 bytes t) (room : ℕ) {a : Answer} → Answers t h room a → AtMost most_of_converted a
converted_most t h room (form p z) =
    let s = preferred_spelling t in
    record { number = omega arith; place = omega (arith, failing_within (λ a. formed current a.ion) 0 s p z, line_length s, line_short t h.sound); size = omega arith }
converted_most t h room (rule p z) =
    let s = preferred_spelling t in
    record { number = omega arith; place = omega (arith, failing_within (annotation_rules current) 0 s p z, line_length s, line_short t h.sound); size = omega arith }
converted_most t h room (read y) = delivered_most (omega (arith, sizes_fit current t h.sound)) (omega arith) y.delivers

converts_most : {bytes : List ℕ} {room : ℕ} {a : Answer} → Converts bytes room a → AtMost most_of_converted a
converts_most (Converts.no_table n) = record { number = omega arith; place = omega arith; size = omega arith }
converts_most {room = room} (held t h x) = converted_most t h room (form_answers t h room x)

-- ---- two bytes

pub at_most : {m : ℕ} {a : Answer} → m ≤ most → AtMost m a → AtMost most a
at_most g h = record { number = omega (arith, h.number); place = omega (arith, h.place); size = omega (arith, h.size) }

pub reads_fit : {l : LineEdition} {line : List ℕ} {room : ℕ} {a : Answer} → Reads l line room a → AtMost most a
reads_fit r = at_most (omega arith) (reads_most r)

pub writes_fit : {l : LineEdition} {bytes : List ℕ} {room : ℕ} {a : Answer} → Writes l bytes room a → AtMost most a
writes_fit w = at_most (omega arith) (writes_most w)

pub converts_fit : {bytes : List ℕ} {room : ℕ} {a : Answer} → Converts bytes room a → AtMost most a
converts_fit x = at_most (omega arith) (converts_most x)

pub relabels_fit : {l : LineEdition} {line : List ℕ} {room : ℕ} {a : Answer} → Relabels l line room a → AtMost most a
relabels_fit (refused r n) = let h = reads_fit r in record { number = h.number; place = h.place; size = omega arith }
relabels_fit (relabelled r e w) = writes_fit w
