-- The groups of parts, and what is measured of them, from what the readers of each tell. Assumes nothing.
use Prim.Native.Nat.{ℕ, ◌-◌}
use mathlib.Core.Path.{◌≡◌}
use mathlib.Core.Bool.{Bool}
use mathlib.Core.List.{List}
use lib.ListN.{length, drop}
use Rattle.std.specs.Prelude.{Option}
use Rattle.rules.specs.Editions.{Edition}
use Rattle.rules.specs.Limits.{max_losses, max_annotations, many_mark}
use Rattle.counts.specs.declared.Counts.{Counts}
use Rattle.counts.specs.Sums.{sum, plus}
use Rattle.faults.specs.declared.Refusal.{Refusal}
use Rattle.faults.specs.Faults.{join}
use Rattle.sequences.specs.declared.SequenceRead.{SequenceRead}
use Rattle.read_ion.specs.declared.IonRead.{IonRead}
use Rattle.read_ion.specs.Ions.{ion_of}
use Rattle.read_changes.specs.declared.Row.{Row}
use Rattle.read_changes.specs.Rows.{changes_of}
use Rattle.read_isotopes.specs.declared.IsotopesRead.{IsotopesRead}
use Rattle.read_isotopes.specs.Rows.{isotopes_of}
use Rattle.read_tail.specs.declared.ChargeRead.{ChargeRead}
use Rattle.read_tail.specs.declared.DecimalPart.{DecimalPart}
use Rattle.read_tail.specs.Charges.{charge_of}
use Rattle.read_tail.specs.Decimals.{deviation_of, confidence_of}
use Rattle.read_annotation.specs.declared.PrefixRead.{PrefixRead}
use Rattle.read_annotation.specs.declared.Front.{Front}
use Rattle.read_annotation.specs.declared.Middle.{Middle}
use Rattle.read_annotation.specs.declared.Tail.{Tail}
use Rattle.read_annotation.specs.declared.Parts.{Parts}
use Rattle.read_annotation.specs.Parts.{prefix_of, adduct_of}
use Rattle.read_annotation.specs.Sequences.{sequence_of_ion}
use Rattle.read_annotation.specs.Groups.{front_of, middle_of, tail_of}
use Rattle.read_annotation.specs.House.{if_asked, rules_of, share_of}
use Rattle.read_annotation.specs.Measured.{own_counts, parts_of, is_free, measured_of}

-- ---- groups

module _ (end : ℕ) (s : List ℕ) (f : Option Refusal) {t v : List ℕ} {q : ℕ} where
  pub front_is : {p : PrefixRead} {x : IonRead} {w : SequenceRead} → p ≡ prefix_of end s f → t ≡ drop p.len s → x ≡ ion_of end t p.fault → w ≡ sequence_of_ion t x
      → v ≡ drop x.len t → q ≡ length s - length v
      → record { marked = p.marked; analyte = p.analyte; at = p.len; ion = x; formed = w.formed; residues = w.residues; len = q } ≡ front_of end s f
  unfolding front_of
  front_is pp pt px pw pv pq = rw (← pp, ← pt, ← px, ← pw, ← pv, ← pq)

module _ (end : ℕ) (s : List ℕ) (f : Option Refusal) {t u v : List ℕ} {q : ℕ} where
  pub middle_is : {l a : Row} {y : IsotopesRead} {n : ℕ} → l ≡ changes_of max_losses end s f → t ≡ drop l.len s → y ≡ isotopes_of end t l.fault → u ≡ drop y.len t
      → a ≡ adduct_of end u y.fault → n ≡ sum l.units a.units → v ≡ drop a.len u → q ≡ length s - length v
      → record { counts = record { annotations = 0; losses = l.n; isotopes = y.n; items = a.n; units = n; text = l.text }; len = q; fault = a.fault } ≡ middle_of end s f
  unfolding middle_of
  middle_is pl pt py pu pa pn pv pq = rw (← pl, ← pt, ← py, ← pu, ← pa, ← pn, ← pv, ← pq)

  pub tail_is : {c : ChargeRead} {d e : DecimalPart} → c ≡ charge_of end s f → t ≡ drop c.len s → d ≡ deviation_of end t c.fault → u ≡ drop d.len t
      → e ≡ confidence_of end u d.fault → v ≡ drop e.len u → q ≡ length s - length v
      → record { charge = c.value; deviation = d; confidence = e; len = q } ≡ tail_of end s f
  unfolding tail_of
  tail_is pc pt pd pu pe pv pq = rw (← pc, ← pt, ← pd, ← pu, ← pe, ← pv, ← pq)

module _ (end : ℕ) (s : List ℕ) (f : Option Refusal) {t u : List ℕ} where
  pub parts_are : (i : ℕ) {place : ℕ} {g : Option Refusal} {a : Front} {m : Middle} {b : Tail} → place ≡ end - length s → g ≡ join f (many_mark max_annotations i place)
      → a ≡ front_of end s g → t ≡ drop a.len s → m ≡ middle_of end t a.ion.fault → u ≡ drop m.len t → b ≡ tail_of end u m.fault
      → record { front = a; middle = m; tail = b } ≡ parts_of i end s f
  unfolding parts_of
  parts_are i pp pg pa pt pm pu pb = rw (← pp, ← pg, ← pa, ← pt, ← pm, ← pu, ← pb)

-- ---- what was read, measured

pub measure_is : (e : Edition) (s : List ℕ) (p : Parts) {t u v : List ℕ} {o n : Counts} {share q : ℕ} {free formed kept : Bool} → share ≡ share_of p.tail.confidence
    → free ≡ is_free p.tail.confidence.bare (drop p.front.at s) → t ≡ drop p.front.len s → u ≡ drop p.middle.len t → o ≡ own_counts p.front.ion → n ≡ plus o p.middle.counts
    → formed ≡ if_asked e p.front.formed
    → kept ≡ rules_of e p.front.ion p.front.residues p.middle.counts.items p.tail.deviation share → v ≡ drop p.tail.len u → q ≡ length s - length v
    → record { counts = n; free = free; share = share; formed = formed; kept = kept; len = q; fault = p.tail.confidence.fault }
    ≡ measured_of e s p
unfolding measured_of
measure_is e s p ps pz pt pu po pn pf pk pv pq = rw (pn, po, pf, pz, ← ps, ← pt, ← pu, ← pk, ← pv, ← pq)
