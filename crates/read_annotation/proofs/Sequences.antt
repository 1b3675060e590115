-- What is read of the sequence of an ion that is spelled, and the rule that it keeps: the text of a series or an internal ion is handed on
-- byte for byte, and is not empty; other ions have none, whatever stands in their braces. Assumes nothing.
use Prim.Native.Nat.{ℕ, ◌+◌, ◌-◌}
use mathlib.Core.Path.{◌≡◌, refl, sym, ap₂}
use mathlib.Core.Bool.{Bool, true, false, not, ◌||◌}
use mathlib.Core.List.{List, [], ◌∷◌, ◌++◌}
use native.Mathlib.Omega.{arith}
use lib.Dec.{T, leb}
use lib.ListN.{length, take, drop}
use borrow.Author.Tests.{le-leb}
use Rattle.std.specs.Prelude.{Option}
use Rattle.lang.specs.Parts.{silent, written}
use Rattle.lang.specs.Mark.{Kept, here, later, marks_of}
use Rattle.rules.specs.Texts.{Text, is_text}
use Rattle.rules.specs.Sequences.{residues}
use Rattle.rules.specs.Editions.{ed2}
use Rattle.rules.specs.Ions.{series, internal, immonium, precursor, reference, named, composed, smiles, unknown, ion_text, SpelledIon}
use Rattle.rules.specs.House.{formed, long_enough}
use Rattle.rules.specs.Limits.{max_position, number_part, ion_parts}
use Rattle.rules.specs.Stored.{residue_count}
use Rattle.rules.proofs.Keeps.{kept_part}
use Rattle.faults.specs.declared.Refusal.{Refusal}
use Rattle.sequences.specs.declared.SequenceRead.{SequenceRead}
use Rattle.sequences.specs.Reads.{sequence_of}
use Rattle.read_ion.specs.declared.IonRead.{IonRead}
use Rattle.read_ion.proofs.SpelledIon.{ion_read, ion_spelled_text}
use Rattle.read_annotation.specs.Sequences.{has_sequence, no_sequence, sequence_of_ion}
use Rattle.read_annotation.specs.House.{covered_of, long_enough_of}
use Rattle.read_annotation.proofs.Ions.{told_within}

-- ---- where there is one, and where not

pub sequence_none : (s : List ℕ) (x : IonRead) → has_sequence x ≡ false → no_sequence ≡ sequence_of_ion s x
unfolding sequence_of_ion
sequence_none s x h = rw h

pub sequence_there : (s : List ℕ) (x : IonRead) {t w : List ℕ} → has_sequence x ≡ true → t ≡ drop x.start s → w ≡ take x.text (drop 1 t)
    → sequence_of w ≡ sequence_of_ion s x
unfolding sequence_of_ion
sequence_there s x h pt pw = rw (h, ← pt, ← pw)

-- ---- of an ion that is spelled

-- a text has a byte
text_some : (t : Text) → leb 1 (length t.bytes) ≡ true
text_some t = by t.bytes t.good
  where
    by : (w : List ℕ) → T (is_text w) → leb 1 (length w) ≡ true
    by [] h = elim h [ ]
    by (b ∷ w) h = le-leb 1 (length (b ∷ w)) (omega arith)

-- a sequence as it is read
abbrev pub sequence_read : SpelledIon → SequenceRead
sequence_read x = record { formed = formed ed2 x; residues = residue_count x }

pub sequence_read_lem : (x : SpelledIon) (k : List ℕ) (g : Option Refusal) → sequence_read x ≡ sequence_of_ion (ion_text x ++ k) (ion_read x g)
unfolding has_sequence
sequence_read_lem (series s n silent) k g = sequence_none (ion_text (series s n silent) ++ k) (ion_read (series s n silent) g) refl
sequence_read_lem (series s n (written t)) k g =
    let x = series s n (written t) in sequence_there (ion_text x ++ k) (ion_read x g) (text_some t) refl (sym (ion_spelled_text x k g))
sequence_read_lem (internal c m n silent) k g = sequence_none (ion_text (internal c m n silent) ++ k) (ion_read (internal c m n silent) g) refl
sequence_read_lem (internal c m n (written t)) k g =
    let x = internal c m n (written t) in sequence_there (ion_text x ++ k) (ion_read x g) (text_some t) refl (sym (ion_spelled_text x k g))
sequence_read_lem (immonium a m) k g = sequence_none (ion_text (immonium a m) ++ k) (ion_read (immonium a m) g) refl
sequence_read_lem precursor k g = sequence_none (ion_text precursor ++ k) (ion_read precursor g) refl
sequence_read_lem (reference n) k g = sequence_none (ion_text (reference n) ++ k) (ion_read (reference n) g) refl
sequence_read_lem (named t) k g = sequence_none (ion_text (named t) ++ k) (ion_read (named t) g) refl
sequence_read_lem (composed f) k g = sequence_none (ion_text (composed f) ++ k) (ion_read (composed f) g) refl
sequence_read_lem (smiles t) k g = sequence_none (ion_text (smiles t) ++ k) (ion_read (smiles t) g) refl
sequence_read_lem (unknown n) k g = sequence_none (ion_text (unknown n) ++ k) (ion_read (unknown n) g) refl

-- within the limits positions are read as they are, so that the rule is that of the rules
pub sequence_rule : (x : SpelledIon) (g : Option Refusal) (at : ℕ) → Kept (marks_of at (ion_parts x)) → long_enough_of (ion_read x g) (residue_count x) ≡ long_enough ed2 x
unfolding long_enough_of has_sequence covered_of
sequence_rule (series s n silent) g at k = refl
sequence_rule (series s n (written t)) g at k =
    let p = kept_part at (ion_parts (series s n (written t))) k (number_part max_position n) (later here) in
    ap₂ (λ (b : Bool) (a : ℕ). not b || leb a (residues t.bytes)) (text_some t) (told_within n p.0 p.1)
sequence_rule (internal c m n silent) g at k = refl
sequence_rule (internal c m n (written t)) g at k =
    let x = internal c m n (written t) in
    let p = kept_part at (ion_parts x) k (number_part max_position m) (later (later here)) in
    let q = kept_part at (ion_parts x) k (number_part max_position n) (later (later (later (later here)))) in
    ap₂ (λ (b : Bool) (a : ℕ). not b || leb a (residues t.bytes)) (text_some t)
    (ap₂ (λ (a b : ℕ). b + 1 - a) (told_within m p.0 p.1) (told_within n q.0 q.1))
sequence_rule (immonium a m) g at k = refl
sequence_rule precursor g at k = refl
sequence_rule (reference n) g at k = refl
sequence_rule (named t) g at k = refl
sequence_rule (composed f) g at k = refl
sequence_rule (smiles t) g at k = refl
sequence_rule (unknown n) g at k = refl
