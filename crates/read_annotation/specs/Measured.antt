-- The annotation that bytes begin with, read and measured. Assumes nothing.
use Rattle.std.specs.Prelude.{ℕ, ◌-◌, Bool, ◌||◌, List, length, drop, Option}
use Rattle.rules.specs.Bytes.{bytes}
use Rattle.rules.specs.Texts.{starts_with}
use Rattle.rules.specs.Editions.{Edition}
use Rattle.rules.specs.Limits.{max_annotations, many_mark}
use Rattle.counts.specs.declared.Counts.{Counts}
use Rattle.counts.specs.Sums.{plus}
use Rattle.faults.specs.declared.Refusal.{Refusal}
use Rattle.faults.specs.Faults.{join}
use Rattle.read_ion.specs.declared.IonRead.{IonRead}
use Rattle.read_annotation.specs.declared.Front.{Front}
use Rattle.read_annotation.specs.declared.Middle.{Middle}
use Rattle.read_annotation.specs.declared.Tail.{Tail}
use Rattle.read_annotation.specs.declared.Parts.{Parts}
use Rattle.read_annotation.specs.declared.Measured.{Measured}
use Rattle.read_annotation.specs.Groups.{before, front_of, middle_of, tail_of}
use Rattle.read_annotation.specs.House.{if_asked, rules_of, share_of}

-- ---- read

abbrev pub parts_behind : ℕ → List ℕ → Front → Middle → Parts
parts_behind end t a m = record { front = a; middle = m; tail = tail_of end (drop m.len t) m.fault }

abbrev pub parts_in : ℕ → List ℕ → Front → Parts
parts_in end s a = let t = drop a.len s in parts_behind end t a (middle_of end t a.ion.fault)

-- annotation number i of a line of `end` bytes
unfoldable pub parts_of : ℕ → ℕ → List ℕ → Option Refusal → Parts
parts_of i end s f = parts_in end s (front_of end s (join f (many_mark max_annotations i (end - length s))))

-- ---- measured

-- the annotation itself, with the units and the text of its ion
abbrev pub own_counts : IonRead → Counts
own_counts x = record { annotations = 1; losses = 0; isotopes = 0; items = 0; units = x.units; text = x.text }

-- a free spelling that no count tells of: a confidence without its 0, or letters that say yb at an ion that s begins with
abbrev pub is_free : Bool → List ℕ → Bool
is_free bare s = bare || starts_with (bytes "myb") s

-- u is left behind the adduct
abbrev pub measured_with : Edition → List ℕ → List ℕ → Front → Middle → Tail → Measured
measured_with e s u a m b =
    record {
      counts = plus (own_counts a.ion) m.counts;
      free = is_free b.confidence.bare (drop a.at s);
      share = share_of b.confidence;
      formed = if_asked e a.formed;
      kept = rules_of e a.ion a.residues m.counts.items b.deviation (share_of b.confidence);
      len = before s (drop b.len u);
      fault = b.confidence.fault;
    }

unfoldable pub measured_of : Edition → List ℕ → Parts → Measured
measured_of e s p = measured_with e s (drop p.middle.len (drop p.front.len s)) p.front p.middle p.tail

abbrev pub measure_of : Edition → ℕ → ℕ → List ℕ → Option Refusal → Measured
measure_of e i end s f = measured_of e s (parts_of i end s f)

-- ---- how far it goes

abbrev pub behind_ion : List ℕ → Parts → List ℕ
behind_ion s p = drop p.front.len s

unfoldable pub annotation_size : List ℕ → Parts → ℕ
annotation_size s p = before s (drop p.tail.len (drop p.middle.len (behind_ion s p)))
