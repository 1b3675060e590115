-- The code's answers are those of the model. Assumes nothing.
use Prim.Native.Nat.{ℕ, ◌<◌, ◌≤◌}
use mathlib.Core.Path.{◌≡◌, sym, ap, ap₂, ◌∙◌, subst}
use mathlib.Core.Bool.{Bool, true, false, not}
use mathlib.Core.List.{List}
use lib.ListN.{length, replicate}
use borrow.Author.Tests.{lt-ltb, le-ltb}
use Rattle.std.specs.Prelude.{Option, Some, None, is_some, is_none, Ok, Err}
use Rattle.rules.specs.Limits.{max_line}
use Rattle.rules.specs.Answers as rules
use Rattle.rules.specs.Editions.{Edition, current}
use Rattle.faults.specs.declared.Refusal.{Refusal}
use Rattle.faults.specs.Refusals.{number_of}
use Rattle.counts.specs.declared.Counts.{Counts}
use Rattle.store_sections.specs.declared.Cursors.{Cursors}
use Rattle.store_sections.specs.Pages.{run}
use Rattle.store_sections.specs.Headers.{end_at, Headed}
use Rattle.read_annotation.specs.declared.Parts.{Parts}
use Rattle.scan_line.specs.declared.Verdict.{Verdict}
use Rattle.scan_line.specs.declared.Verdict.TheVariants.{Fine, Short, Stray}
use Rattle.faults.specs.declared.Why.TheVariants.{LineTooLong, StrayByte, Unfinished, OutputTooShort}
use Rattle.measure_line.specs.declared.Totals.{Totals}
use Rattle.measure_line.specs.Totals.{parts_at, totals_by}
use Rattle.read_line.specs.Stores.{line_events_by, line_events, StoresLine}
use Rattle.measure_line.specs.Refusals.{first_of}
use Rattle.read_line.specs.Readings.{table_over, stored_over, counted_over, spelled_over, keeps_all, ReadsSpelled, any_over, read_of}
use Rattle.answers.specs.Delivered.{Answer, answered, refused_of}

-- ---- a line with a shape

counted_none : (edition : Edition) (d line : List ℕ) (t : Totals) → first_of t ≡ None → counted_over edition d line t ≡ stored_over edition d line t.counts
counted_none edition d line t e = rw e

counted_some : (edition : Edition) (d line : List ℕ) (t : Totals) {r : Refusal} → first_of t ≡ Some r
    → counted_over edition d line t ≡ record { number = number_of r.why; place = r.place; size = 0; out = d }
counted_some edition d line t e = rw e

no_room_over : (edition : Edition) (d line : List ℕ) (n : Counts) → length d < end_at edition n → stored_over edition d line n ≡ record { number = 8; place = end_at edition n; size = 0; out = d }
no_room_over edition d line n h = rw (lt-ltb (length d) (end_at edition n) h)

room_over : (edition : Edition) (d line : List ℕ) (n : Counts) → end_at edition n ≤ length d
    → stored_over edition d line n ≡ record { number = 0; place = 0; size = end_at edition n; out = table_over edition d line n }
room_over edition d line n h = rw (le-ltb (length d) (end_at edition n) h)

module _ (edition : Edition) (line : List ℕ) {p : Parts} {t : Totals} {f : Option Refusal} (pp : p ≡ parts_at line 0) (pt : t ≡ totals_by edition line p) (pf : f ≡ first_of t) where
  -- in terms of what the code counted
  counted_is : (d : List ℕ) → spelled_over edition d line ≡ counted_over edition d line t
  unfolding spelled_over
  counted_is d = ap (counted_over edition d line) (sym (pt ∙ ap (totals_by edition line) pp))

  pub spelled_refused : {d : List ℕ} {q : Refusal} → f ≡ Some q → ReadsSpelled edition line d d (Err q)
  spelled_refused {d} h = record { is = sym (counted_is d ∙ counted_some edition d line t (sym pf ∙ h)) }

  module _ (none : f ≡ None) {size : ℕ} (ps : size ≡ end_at edition t.counts) where
    stored_is : (d : List ℕ) → spelled_over edition d line ≡ stored_over edition d line t.counts
    stored_is d = counted_is d ∙ counted_none edition d line t (sym pf ∙ none)

    pub spelled_no_room : {d : List ℕ} {r : Answer} → length d < size → r ≡ refused_of OutputTooShort size → ReadsSpelled edition line d d r
    spelled_no_room {d} {r} h e =
        record {
          is =
              ap (λ (r : Answer). answered r d) e ∙ ap (λ (k : ℕ). record { number = 8; place = k; size = 0; out = d }) ps
              ∙ sym (stored_is d ∙ no_room_over edition d line t.counts (subst (λ (k : ℕ). length d < k) ps h));
        }

    pub spelled_stored : {d e g : List ℕ} {c : Cursors} → size ≤ length d → Headed edition d t.counts e c → StoresLine edition line p e c g
        → ReadsSpelled edition line d g (Ok size)
    spelled_stored {d} {e} {g} {c} h o q =
        let w : g ≡ table_over edition d line t.counts =
        q.ran.made ∙ ap (λ (p : Parts). run e c (line_events_by edition line p)) pp ∙ ap₂ (λ (x : List ℕ) (k : Cursors). run x k (line_events edition line)) o.put.made o.starts in
        record {
          is =
              ap₂ (λ (k : ℕ) (o : List ℕ). record { number = 0; place = 0; size = k; out = o }) ps w
              ∙ sym (stored_is d ∙ room_over edition d line t.counts (subst (λ (k : ℕ). k ≤ length d) ps h));
        }

-- whether it keeps everything
pub keeps_is : (edition : Edition) (line : List ℕ) {p : Parts} {t : Totals} {f : Option Refusal} {b : Bool} → p ≡ parts_at line 0 → t ≡ totals_by edition line p → f ≡ first_of t
    → is_some f ≡ not b → b ≡ keeps_all edition line
unfolding keeps_all
keeps_is edition line {f = f} {b = b} pp pt pf e =
    by b e ∙ ap (λ (f : Option Refusal). is_none f) (pf ∙ ap first_of (pt ∙ ap (totals_by edition line) pp))
  where
    by : (b : Bool) → is_some f ≡ not b → b ≡ is_none f
    by true e = sym (ap not e)
    by false e = sym (ap not e)

-- ---- any line

module _ (edition : Edition) (line : List ℕ) (v : Verdict) {d : List ℕ} where
  pub any_fine : {e : List ℕ} {r : Answer} → v ≡ Fine → ReadsSpelled edition line d e r → answered r e ≡ any_over edition d v line
  any_fine q s = s.is ∙ sym (ap (λ (v : Verdict). any_over edition d v line) q)

  pub any_short : {r : Answer} → v ≡ Short → r ≡ refused_of Unfinished (length line) → answered r d ≡ any_over edition d v line
  any_short q e = ap (λ (r : Answer). answered r d) e ∙ sym (ap (λ (v : Verdict). any_over edition d v line) q)

  pub any_stray : {place : ℕ} {r : Answer} → v ≡ Stray place → r ≡ refused_of StrayByte place → answered r d ≡ any_over edition d v line
  any_stray q e = ap (λ (r : Answer). answered r d) e ∙ sym (ap (λ (v : Verdict). any_over edition d v line) q)

module _ (line : List ℕ) (room : ℕ) (v : Verdict) {d : List ℕ} (zeros : d ≡ replicate room 0) where
  pub read_long : {r : Answer} → max_line < length line → r ≡ refused_of LineTooLong max_line → answered r d ≡ read_of v line room
  unfolding read_of
  read_long h e = rw (lt-ltb max_line (length line) h, e, zeros)

  pub read_within : {a : rules.Answer} → length line ≤ max_line → a ≡ any_over current d v line → a ≡ read_of v line room
  unfolding read_of
  read_within h q = q ∙ rw (le-ltb max_line (length line) h, zeros)
