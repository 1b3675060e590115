-- What the annotations of a line store, one after the other. Assumes nothing.
use Rattle.std.specs.Prelude.{ℕ, ◌≡◌, List, drop}
use Rattle.rules.specs.Editions.{Edition}
use Rattle.store_sections.specs.declared.Cursors.{Cursors}
use Rattle.store_sections.specs.Pages.{Event, Ran, ends}
use Rattle.read_annotation.specs.declared.Parts.{Parts}
use Rattle.store_annotation.specs.Events.{annotation_events}
use Rattle.read_line.specs.declared.StoredTo.{StoredTo}
use Rattle.measure_line.specs.Totals.{parts_at}
use Rattle.measure_line.specs.Walks.{behind_by, line_given_by}

pub record StoresNext (edition : Edition) (line : List ℕ) (from : ℕ) (p : Parts) (d : List ℕ) (c : Cursors) (e : List ℕ) (r : StoredTo) : Type 0 where
  pub at : r.at ≡ behind_by line from p
  pub ran : Ran d c (annotation_events edition (drop from line) p) e r.cursors

-- of the first annotation, p was read
abbrev pub line_events_by : Edition → List ℕ → Parts → List Event
line_events_by e line p = line_given_by (annotation_events e) (annotation_events e) line p

abbrev pub line_events : Edition → List ℕ → List Event
line_events e line = line_events_by e line (parts_at line 0)

-- output d is e after all of them, from cursors c on
pub record StoresLine (edition : Edition) (line : List ℕ) (p : Parts) (d : List ℕ) (c : Cursors) (e : List ℕ) : Type 0 where
  pub ran : Ran d c (line_events_by edition line p) e (ends c (line_events_by edition line p))
