-- The parts of an annotation in three groups, each read behind the one before it. Assumes nothing.
use Rattle.std.specs.Prelude.{ℕ, ◌-◌, Bool, ◌||◌, List, length, drop, Option}
use Rattle.rules.specs.Bytes.{bytes}
use Rattle.rules.specs.Texts.{starts_with}
use Rattle.rules.specs.Limits.{max_losses}
use Rattle.counts.specs.Sums.{sum}
use Rattle.faults.specs.declared.Refusal.{Refusal}
use Rattle.read_opening.specs.Heads.{begins_sign}
use Rattle.sequences.specs.declared.SequenceRead.{SequenceRead}
use Rattle.read_ion.specs.declared.IonRead.{IonRead}
use Rattle.read_ion.specs.Ions.{ion_of}
use Rattle.read_changes.specs.declared.Row.{Row}
use Rattle.read_changes.specs.Rows.{changes_of}
use Rattle.read_isotopes.specs.declared.IsotopesRead.{IsotopesRead}
use Rattle.read_isotopes.specs.Rows.{isotopes_of}
use Rattle.read_tail.specs.declared.ChargeRead.{ChargeRead}
use Rattle.read_tail.specs.declared.DecimalPart.{DecimalPart}
use Rattle.read_tail.specs.Charges.{charge_of}
use Rattle.read_tail.specs.Decimals.{deviation_of, confidence_of}
use Rattle.read_annotation.specs.declared.PrefixRead.{PrefixRead}
use Rattle.read_annotation.specs.declared.Front.{Front}
use Rattle.read_annotation.specs.declared.Middle.{Middle}
use Rattle.read_annotation.specs.declared.Tail.{Tail}
use Rattle.read_annotation.specs.Parts.{prefix_of, adduct_of}
use Rattle.read_annotation.specs.Sequences.{sequence_of_ion}

-- how many bytes of s stand before what is left
abbrev pub before : List ℕ → List ℕ → ℕ
before s left = length s - length left

-- ---- prefix and ion

-- t is left behind the prefix
abbrev pub front_with : List ℕ → List ℕ → PrefixRead → IonRead → SequenceRead → Front
front_with s t p x q =
    record {
      marked = p.marked;
      analyte = p.analyte;
      at = p.len;
      ion = x;
      formed = q.formed;
      residues = q.residues;
      len = before s (drop x.len t);
    }

abbrev pub front_behind : List ℕ → List ℕ → PrefixRead → IonRead → Front
front_behind s t p x = front_with s t p x (sequence_of_ion t x)

abbrev pub front_in : ℕ → List ℕ → PrefixRead → Front
front_in end s p = let t = drop p.len s in front_behind s t p (ion_of end t p.fault)

unfoldable pub front_of : ℕ → List ℕ → Option Refusal → Front
front_of end s f = front_in end s (prefix_of end s f)

-- ---- losses, isotopes, adduct

-- a sign, or the bracket of an adduct
abbrev pub begins_middle : List ℕ → Bool
begins_middle s = begins_sign s || starts_with (bytes "[") s

-- t is left behind the losses, u behind the isotopes
abbrev pub middle_with : List ℕ → List ℕ → Row → IsotopesRead → Row → Middle
middle_with s u l y a =
    record {
      counts = record { annotations = 0; losses = l.n; isotopes = y.n; items = a.n; units = sum l.units a.units; text = l.text };
      len = before s (drop a.len u);
      fault = a.fault;
    }

abbrev pub middle_behind : ℕ → List ℕ → List ℕ → Row → IsotopesRead → Middle
middle_behind end s t l y = let u = drop y.len t in middle_with s u l y (adduct_of end u y.fault)

abbrev pub middle_in : ℕ → List ℕ → Row → Middle
middle_in end s l = let t = drop l.len s in middle_behind end s t l (isotopes_of end t l.fault)

unfoldable pub middle_of : ℕ → List ℕ → Option Refusal → Middle
middle_of end s f = middle_in end s (changes_of max_losses end s f)

-- ---- charge, deviation, confidence

abbrev pub tail_with : List ℕ → List ℕ → ChargeRead → DecimalPart → DecimalPart → Tail
tail_with s u c d e = record { charge = c.value; deviation = d; confidence = e; len = before s (drop e.len u) }

abbrev pub tail_behind : ℕ → List ℕ → List ℕ → ChargeRead → DecimalPart → Tail
tail_behind end s t c d = let u = drop d.len t in tail_with s u c d (confidence_of end u d.fault)

abbrev pub tail_in : ℕ → List ℕ → ChargeRead → Tail
tail_in end s c = let t = drop c.len s in tail_behind end s t c (deviation_of end t c.fault)

unfoldable pub tail_of : ℕ → List ℕ → Option Refusal → Tail
tail_of end s f = tail_in end s (charge_of end s f)
