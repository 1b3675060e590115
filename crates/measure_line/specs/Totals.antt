-- What is counted of the annotations of a line, one after the other. Assumes nothing.
use Rattle.std.specs.Prelude.{ℕ, ◌+◌, ◌-◌, min, Bool, false, cond, not, ◌||◌, List, eqb, leb, length, drop, Option, None}
use Rattle.rules.specs.Bytes.{bytes}
use Rattle.rules.specs.Texts.{starts_with}
use Rattle.rules.specs.Editions.{Edition}
use Rattle.rules.specs.House.{one}
use Rattle.numbers.specs.Shares.{largest}
use Rattle.counts.specs.Sums.{no_counts, plus}
use Rattle.faults.specs.declared.Refusal.{Refusal}
use Rattle.faults.specs.Faults.{join}
use Rattle.read_annotation.specs.declared.Parts.{Parts}
use Rattle.read_annotation.specs.declared.Measured.{Measured}
use Rattle.read_annotation.specs.Measured.{parts_of, measured_of}
use Rattle.measure_line.specs.declared.Totals.{Totals}
use Rattle.measure_line.specs.Loops.{loop}

abbrev pub nothing : Totals
nothing =
    record {
      counts = no_counts;
      free = false;
      sum = 0;
      limit = None;
      form = None;
      breach = None;
      excess = None;
      at = 0;
    }

-- a test that is not kept counts where none was before it
abbrev pub noted : Option Refusal → ℕ → ℕ → Bool → Option Refusal
noted f number place kept = join f (record { place = place; number = number; broken = not kept })

-- a sum that a u64 holds
abbrev pub summed : ℕ → ℕ → ℕ
summed sum share = min (sum + share) largest

-- the annotation that begins at `from`, of which m was measured
abbrev pub added_with : List ℕ → Totals → ℕ → Measured → Totals
added_with line t from m =
    let place = length line - length (drop from line) in
    let sum = summed t.sum m.share in
    record {
      counts = plus t.counts m.counts;
      free = t.free || m.free;
      sum = sum;
      limit = m.fault;
      form = noted t.form 11 place m.formed;
      breach = noted t.breach 6 place m.kept;
      excess = noted t.excess 7 place (leb sum one);
      at = min (from + m.len) (length line);
    }

-- the annotation that begins at `from`, of which p was read
abbrev pub added_by : Edition → List ℕ → Totals → ℕ → Parts → Totals
added_by e line t from p = added_with line t from (measured_of e (drop from line) p)

unfoldable pub add_of : Edition → List ℕ → Totals → ℕ → Totals
add_of e line t from = added_by e line t from (parts_of t.counts.annotations (length line) (drop from line) t.limit)

-- a comma: one annotation more, behind it
abbrev pub goes_on : List ℕ → ℕ → Bool
goes_on line at = starts_with (bytes ",") (drop at line)

abbrev pub behind_comma : List ℕ → ℕ → ℕ
behind_comma line at = min (at + 1) (length line)

abbrev pub add_next : Edition → List ℕ → Totals → Totals
add_next e line t = add_of e line t (behind_comma line t.at)

abbrev pub totals_from : Edition → List ℕ → ℕ → Totals → Totals
totals_from e line n t = loop (λ t. goes_on line t.at) (add_next e line) n t

-- the annotation that begins at `from`, read as the first of its line
abbrev pub parts_at : List ℕ → ℕ → Parts
parts_at line from = parts_of 0 (length line) (drop from line) None

-- of the first annotation, p was read; the empty line has no annotations
unfoldable pub totals_by : Edition → List ℕ → Parts → Totals
totals_by e line p = cond (eqb (length line) 0) nothing (totals_from e line (length line) (added_by e line nothing 0 p))

abbrev pub totals_of : Edition → List ℕ → Totals
totals_of e line = totals_by e line (parts_at line 0)
