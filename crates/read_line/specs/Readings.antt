-- The answer to a line whose shape was judged, by what is counted of it. Assumes nothing.
use Rattle.std.specs.Prelude.{ℕ, ◌≡◌, Bool, cond, List, eqb, ltb, length, replicate, is_none}
use Rattle.std.specs.Option.{option_map_or}
use Rattle.std.proofs.lemmas.List.Edits.{sets}
use Rattle.rules.specs.Limits.{max_line}
use Rattle.rules.specs.Answers as rules
use Rattle.rules.specs.Answers.{refuses}
use Rattle.rules.specs.Editions.{Edition, current}
use Rattle.faults.specs.Refusals.{number_of}
use Rattle.counts.specs.declared.Counts.{Counts}
use Rattle.store_sections.specs.Pages.{run}
use Rattle.store_sections.specs.Headers.{starts_of, end_at, header_bytes}
use Rattle.scan_line.specs.declared.Verdict.{Verdict}
use Rattle.scan_line.specs.Verdicts as verdicts
use Rattle.scan_line.specs.Verdicts.{place_of}
use Rattle.answers.specs.Delivered.{Answer, answered}
use Rattle.measure_line.specs.declared.Totals.{Totals}
use Rattle.measure_line.specs.Totals.{totals_of}
use Rattle.measure_line.specs.Refusals.{first_of}
use Rattle.read_line.specs.Stores.{line_events}

-- a refusal, over an output d that stays as it is
abbrev pub refused_over : List ℕ → ℕ → ℕ → rules.Answer
refused_over d number place = record { number = number; place = place; size = 0; out = d }

-- header and sections, over the output d
abbrev pub table_over : Edition → List ℕ → List ℕ → Counts → List ℕ
table_over e d line n = run (sets d 0 (header_bytes e n)) (starts_of e n) (line_events e line)

abbrev pub stored_over : Edition → List ℕ → List ℕ → Counts → rules.Answer
stored_over e d line n =
    cond (ltb (length d) (end_at e n))
    (refused_over d 8 (end_at e n))
    (record { number = 0; place = 0; size = end_at e n; out = table_over e d line n })

abbrev pub counted_over : Edition → List ℕ → List ℕ → Totals → rules.Answer
counted_over e d line t =
    option_map_or (λ r. refused_over d (number_of r.why) r.place) (first_of t) (stored_over e d line t.counts)

-- of a line with a shape, into an output d
unfoldable pub spelled_over : Edition → List ℕ → List ℕ → rules.Answer
spelled_over e d line = counted_over e d line (totals_of e line)

-- of a line with a shape: it keeps the limits, and the form and rules of an edition
unfoldable pub keeps_all : Edition → List ℕ → Bool
keeps_all e line = is_none (first_of (totals_of e line))

pub record ReadsSpelled (edition : Edition) (line d e : List ℕ) (r : Answer) : Type 0 where
  pub is : answered r e ≡ spelled_over edition d line

-- of a line whose shape was judged, into an output d: the verdict's own number, or what is read
abbrev pub any_over : Edition → List ℕ → Verdict → List ℕ → rules.Answer
any_over e d v line = cond (eqb (verdicts.number_of v) 0) (spelled_over e d line) (refused_over d (verdicts.number_of v) (place_of line v))

unfoldable pub read_of : Verdict → List ℕ → ℕ → rules.Answer
read_of v line room = cond (ltb max_line (length line)) (refuses room 1 max_line) (any_over current (replicate room 0) v line)
