-- The loop that stores the annotations of a line: a walk whose events are stored as they are given. Assumes nothing.
use Prim.Native.Nat.{ℕ, ◌+◌, ◌-◌, ◌<◌, ◌≤◌, min}
use mathlib.Core.Path.{◌≡◌, refl, sym, ap, ◌∙◌}
use mathlib.Core.Bool.{true, false}
use mathlib.Core.List.{List, [], ◌++◌}
use lib.ListN.{length, drop}
use Rattle.rules.specs.Bytes.{bytes}
use Rattle.rules.specs.Texts.{starts_with}
use Rattle.rules.specs.Editions.{Edition}
use Rattle.put_bytes.specs.Puts.{max_place}
use Rattle.store_sections.specs.declared.Cursors.{Cursors}
use Rattle.store_sections.specs.Pages.{Event, Ran}
use Rattle.store_sections.proofs.Events.{ran_none, ran_then, ran_as, ran_length}
use Rattle.read_annotation.specs.declared.Parts.{Parts}
use Rattle.store_annotation.specs.declared.Stored.{Stored}
use Rattle.read_annotation.specs.Measured.{annotation_size}
use Rattle.store_annotation.specs.Events.{annotation_events, StoresAnnotation}
use Rattle.read_line.specs.declared.StoredTo.{StoredTo}
use Rattle.measure_line.specs.Totals.{parts_at}
use Rattle.read_line.specs.Stores.{StoresNext, line_events_by, StoresLine}
use Rattle.measure_line.proofs.Walking.{walked_none, Walking, walking_begins, walking_turns, walking_falls, walking_ends}

-- one annotation
pub next_stored : (edition : Edition) (line : List ℕ) (from : ℕ) (p : Parts) {d e r : List ℕ} {c : Cursors} {x : Stored} {at : ℕ} → r ≡ drop from line → StoresAnnotation edition r p d c e x
    → at ≡ min (from + x.len) (length line) → StoresNext edition line from p d c e (record { at = at; cursors = x.cursors })
next_stored edition line from p {d} {e} {r} {c} {x} {at} pr h pa =
    record {
      at = pa ∙ ap (λ (n : ℕ). min (from + n) (length line)) (h.len ∙ ap (λ (s : List ℕ). annotation_size s p) pr);
      ran = ran_as h.ran (ap (λ (s : List ℕ). annotation_events edition s p) pr);
    }

-- events that are those of the line
line_stored : (edition : Edition) (line : List ℕ) {p : Parts} {d e : List ℕ} {c c' : Cursors} {es : List Event} → Ran d c es e c' → line_events_by edition line p ≡ es
    → StoresLine edition line p d c e
line_stored edition line x v = let a = ran_as x (sym v) in record { ran = record { small = a.small; made = a.made; place = refl } }

-- from output d and place t₀ on, the events es brought e and t
pub record Storing (edition : Edition) (line d : List ℕ) (t₀ : StoredTo) (e : List ℕ) (t : StoredTo) : Type 0 where
  pub es : List Event
  pub ran : Ran d t₀.cursors es e t.cursors
  pub walk : Walking (annotation_events edition) line t₀.at es t.at

pub storing_begins : (edition : Edition) (line : List ℕ) {d : List ℕ} (t : StoredTo) → length d ≤ max_place → Storing edition line d t d t
storing_begins edition line t h = record { es = []; ran = ran_none h; walk = walking_begins (annotation_events edition) line t.at }

pub storing_length : {edition : Edition} {line d e : List ℕ} {t₀ t : StoredTo} → Storing edition line d t₀ e t → length e ≡ length d
storing_length s = ran_length s.ran

module _ (edition : Edition) (line : List ℕ) {d e r : List ℕ} {t₀ t : StoredTo} (s : Storing edition line d t₀ e t) (pr : r ≡ drop t.at line) where
  module _ {f : List ℕ} {u : StoredTo} {from : ℕ} {p : Parts} (q : starts_with (bytes ",") r ≡ true) (pf : from ≡ min (t.at + 1) (length line)) (pp : p ≡ parts_at line from)
      (x : StoresNext edition line from p e t.cursors f u) where
    pub storing_turns : Storing edition line d t₀ f u
    storing_turns =
        record {
          es = s.es ++ annotation_events edition (drop from line) p;
          ran = ran_then s.ran x.ran;
          walk = walking_turns (annotation_events edition) line s.walk pr q pf pp x.at;
        }

    pub storing_falls : length line - u.at < length line - t.at
    storing_falls = walking_falls (annotation_events edition) line s.walk pr q pf pp x.at

  -- the first annotation began at 0
  pub storing_ends : {d₀ : List ℕ} {c : Cursors} {p : Parts} → 1 ≤ length line → StoresNext edition line 0 p d₀ c d t₀ → starts_with (bytes ",") r ≡ false → StoresLine edition line p d₀ c e
  storing_ends {p = p} h x q = line_stored edition line (ran_then x.ran s.ran) (walking_ends (annotation_events edition) line s.walk pr (annotation_events edition) p h x.at q)

-- an empty line
pub empty_stored : (edition : Edition) (line : List ℕ) (p : Parts) (d : List ℕ) (c : Cursors) → length d ≤ max_place → length line < 1 → StoresLine edition line p d c d
empty_stored edition line p d c s h = line_stored edition line (ran_none {c = c} s) (walked_none (annotation_events edition) (annotation_events edition) line p h)
