-- The preferred spelling of a line, by the machine's bytes, is what the rules say: what the writer gives for the table that the reader
-- gives. Assumes nothing.
use Prim.Native.Nat.{ℕ, ◌<◌, ◌≤◌, ◌^◌}
use mathlib.Core.Path.{◌≡◌, refl, sym, ap, ◌∙◌, subst}
use mathlib.Core.Bool.{Bool, true, false, cond}
use mathlib.Core.List.{List}
use native.Mathlib.Omega.{arith}
use lib.Dec.{T, eqb, ltb}
use lib.ListN.{length, get_or, take, replicate}
use borrow.Author.Tests.{eqb-true, eqb-false}
use Rattle.lang.specs.Mark.{Kept}
use Rattle.lang.specs.Order.{Each}
use Rattle.rules.specs.Lines.{Spelling, line_text, within}
use Rattle.rules.specs.Fields.{Table, Says}
use Rattle.rules.specs.Limits.{max_line, line_marks}
use Rattle.rules.specs.Preferred.{preferred}
use Rattle.rules.specs.Stored.{stored}
use Rattle.rules.specs.Answers.{Answer, refuses, gives, Sound, Holds, Reads}
use Rattle.rules.specs.Largest.{max_table}
use Rattle.rules.specs.Editions.{current, LineEdition, second_lines}
use Rattle.rules.proofs.PreferredSpells.{preferred_within}
use Rattle.scan_line.specs.declared.Verdict.{Verdict}
use Rattle.scan_line.specs.declared.Verdict.TheVariants.{Fine, Short, Stray}
use Rattle.scan_line.specs.Steps.{machine_bytes, scanned_by}
use Rattle.scan_line.specs.Verdicts.{JudgedBy}
use Rattle.scan_line.proofs.Scans.{by_machine}
use Rattle.store_sections.specs.Headers.{end_at}
use Rattle.measure_line.specs.declared.Totals.{Totals}
use Rattle.measure_line.specs.Totals.{parts_at, totals_of}
use Rattle.std.specs.Prelude.{Option, Some, None}
use Rattle.std.specs.Option.{option_map_or}
use Rattle.faults.specs.declared.Refusal.{Refusal}
use Rattle.faults.specs.Refusals.{number_of}
use Rattle.faults.proofs.Refusals.{number_some}
use Rattle.measure_line.specs.Refusals.{first_of}
use Rattle.read_line.specs.Readings.{table_over, spelled_over, any_over, read_of}
use Rattle.read_line.proofs.Right.{read_right}
use Rattle.answers.specs.Delivered.{line_over}
use Rattle.write_table.proofs.Holds.{spelling_as, no_number, take_given}
use Rattle.write_table.proofs.Right.{line_right}
use Rattle.respell_line.specs.Plain.{spelling_of}
use Rattle.respell_line.specs.Relabelled.{relabelled_over}
use Rattle.respell_line.proofs.Preferred.{spelling_preferred}
use Rattle.lines.specs.Relabels.{Relabels, refused, relabelled, relabelled_as, relabelled_of}
use Rattle.lines.proofs.Enough.{read_enough}

-- ---- what was read

-- with number 0: a table that the line spells, sound, its stored bytes and zeros behind them
pub record Read (l : LineEdition) (line : List ℕ) (room : ℕ) (a : Answer) : Type 0 where
  pub table : Table
  pub spelling : Spelling
  pub edition : T (within l spelling)
  pub text : line_text spelling ≡ line
  pub short : length line ≤ max_line
  pub says : Each Says spelling table
  pub limits : Kept (line_marks spelling)
  pub sound : Sound current table
  pub is : a ≡ gives room (stored current table)

pub reads_table : {l : LineEdition} (line : List ℕ) (room : ℕ) {a : Answer} → Reads l line room a → a.number ≡ 0 → Read l line room a
reads_table line room (Reads.long h) e = absurd (omega arith)
reads_table line room (Reads.misshapen h x) e = absurd (no_number x e)
reads_table line room (Reads.spelled h s i q r) e =
    let y = spelling_as {l = second_lines} s room tt r e in
    record { table = y.table; spelling = s; edition = i; text = q; short = h; says = y.says; limits = y.limits; sound = y.sound; is = y.is }

-- what stands in the output is the table's
pub bytes_read : {l : LineEdition} (line : List ℕ) (room : ℕ) {a : Answer} (x : Read l line room a) → take a.size a.out ≡ stored current x.table
bytes_read line room {a} x = ap (λ (y : Answer). take y.size y.out) x.is ∙ take_given room (stored current x.table)

pub holds_read : {l : LineEdition} (line : List ℕ) (room : ℕ) {a : Answer} (x : Read l line room a) → Holds current (take a.size a.out) x.table
holds_read line room x = record { sound = x.sound; is = sym (bytes_read line room x) }

-- what is spelled for it
spelled_read : {l : LineEdition} (line : List ℕ) (room : ℕ) {a : Answer} (x : Read l line room a) → spelling_of line (totals_of current line) (parts_at line 0) ≡ preferred x.table
spelled_read line room x =
    let s = x.spelling in
    ap (λ (w : List ℕ). spelling_of w (totals_of current w) (parts_at w 0)) (sym x.text)
    ∙ spelling_preferred s x.table (omega (arith, x.short, ap length x.text)) x.says x.limits

-- ---- the same refusals

-- what reading answers, with the spelling in the place of the table
abbrev answer_by : List ℕ → ℕ → Answer → Answer
answer_by line room a =
    cond (eqb a.number 0) (line_over (spelling_of line (totals_of current line) (parts_at line 0)) room) (refuses room a.number a.place)

module _ (line : List ℕ) (room : ℕ) where
  abbrev zeros : List ℕ
  zeros = replicate max_table 0

  abbrev t : Totals
  t = totals_of current line

  over_is : ((spelled_over current zeros line).number ≡ 8 → ⊥) → relabelled_over line room ≡ answer_by line room (spelled_over current zeros line)
  unfolding relabelled_over spelled_over
  over_is h = by (first_of t) (ltb (length zeros) (end_at current t.counts)) h
    where
      w : Answer
      w = line_over (spelling_of line t (parts_at line 0)) room

      stored_by : Bool → Answer
      stored_by c = cond c (record { number = 8; place = end_at current t.counts; size = 0; out = zeros }) (record { number = 0; place = 0; size = end_at current t.counts; out = table_over current zeros line t.counts })

      read_by : Option Refusal → Bool → Answer
      read_by f c = option_map_or (λ r. record { number = number_of r.why; place = r.place; size = 0; out = zeros }) f (stored_by c)

      by : (f : Option Refusal) (c : Bool) → ((read_by f c).number ≡ 8 → ⊥)
          → option_map_or (λ r. refuses room (number_of r.why) r.place) f w ≡ answer_by line room (read_by f c)
      by None true n = absurd (n refl)
      by None false n = refl
      by (Some r) c n = rw (number_some r.why)

  any_is : (v : Verdict) → ((read_of v line max_table).number ≡ 8 → ⊥) → relabelled_of v line room ≡ answer_by line room (read_of v line max_table)
  unfolding relabelled_of read_of
  any_is v h = by (ltb max_line (length line)) v h
    where
      by : (b : Bool) (v : Verdict) → ((cond b (refuses max_table 1 max_line) (any_over current zeros v line)).number ≡ 8 → ⊥)
          → cond b (refuses room 1 max_line) (relabelled_as v line room) ≡ answer_by line room (cond b (refuses max_table 1 max_line) (any_over current zeros v line))
      by true v n = refl
      by false Fine n = over_is n
      by false Short n = refl
      by false (Stray p) n = refl

-- ---- by the rules

relabel_from : {l : LineEdition} (line : List ℕ) (room : ℕ) (a : Answer) → Reads l line max_table a → (b : Bool) → eqb a.number 0 ≡ b
    → Relabels l line room (cond b (line_over (spelling_of line (totals_of current line) (parts_at line 0)) room) (refuses room a.number a.place))
relabel_from {l} line room a r true e =
    let n = eqb-true a.number 0 e in
    let x = reads_table line max_table r n in
    relabelled r n
    (line_right l (take a.size a.out) room x.table (holds_read line max_table x) (preferred_within l x.says x.edition) (spelling_of line (totals_of current line) (parts_at line 0)) (spelled_read line max_table x))
relabel_from line room a r false e = refused r (eqb-false a.number 0 e)

pub relabel_right : (l : LineEdition) (v : Verdict) (line : List ℕ) (room : ℕ) → JudgedBy l line v → Relabels l line room (relabelled_of v line room)
relabel_right l v line room j =
    let a = read_of v line max_table in
    let r = read_right l line max_table (omega arith) v j in
    subst (Relabels l line room) (sym (any_is line room v (λ e. read_enough line r (omega arith) e))) (relabel_from line room a r (eqb a.number 0) refl)

-- by the machine that was made
pub relabel_made : (l : LineEdition) (line : List ℕ) (room : ℕ) (m : List ℕ) {r : Answer} → m ≡ machine_bytes l
    → ((i : ℕ) → i < length line → get_or line i 0 < 256) → length line < 2 ^ 64 → r ≡ relabelled_of (scanned_by m line) line room → Relabels l line room r
relabel_made l line room m e bytes h x =
    subst (Relabels l line room) (sym (x ∙ ap (λ (m : List ℕ). relabelled_of (scanned_by m line) line room) e))
    (relabel_right l (scanned_by (machine_bytes l) line) line room (by_machine l line bytes h))
