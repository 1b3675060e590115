-- What is read of prefix and ion that are spelled. Assumes nothing.
use Prim.Native.Nat.{ℕ, ◌+◌, ◌-◌, ◌≤◌}
use mathlib.Core.Path.{◌≡◌, sym, ap, ◌∙◌}
use mathlib.Core.Bool.{Bool}
use mathlib.Core.List.{List, ◌++◌, append_assoc}
use native.Mathlib.Omega.{arith}
use lib.ListN.{length, drop, length-append}
use Rattle.std.specs.Prelude.{Option}
use Rattle.lang.specs.Parts.{Opt, opt_text}
use Rattle.lang.specs.Mark.{marks_of}
use Rattle.rules.specs.Bytes.{bytes}
use Rattle.rules.specs.Ions.{ion_text, SpelledIon}
use Rattle.rules.specs.Annotations.{flag_text, analyte_text}
use Rattle.rules.specs.Limits.{opt_part, analyte_part, ion_parts}
use Rattle.rules.specs.Editions.{ed2}
use Rattle.rules.specs.House.{formed}
use Rattle.rules.specs.Stored.{residue_count}
use Rattle.faults.specs.declared.Refusal.{Refusal}
use Rattle.faults.specs.Faults.{after}
use Rattle.read_ion.specs.declared.IonRead.{IonRead}
use Rattle.read_ion.proofs.SpelledIon.{EndsIon, ion_read, ion_read_lem}
use Rattle.read_annotation.specs.declared.Front.{Front}
use Rattle.read_annotation.specs.Groups.{front_of}
use Rattle.read_annotation.proofs.Groups.{front_is}
use Rattle.read_annotation.proofs.Chains.{drop_is, inside}
use Rattle.read_annotation.proofs.Begins.{ion_begins_apart, ion_no_mark}
use Rattle.read_annotation.proofs.Ions.{ion_told}
use Rattle.read_annotation.proofs.Sequences.{sequence_read_lem}
use Rattle.read_annotation.proofs.Prefixes.{analyte_number, prefix_length, prefix_read_lem}

module _ (m : Bool) (n : Opt ℕ) (x : SpelledIon) (k : List ℕ) where
  abbrev pub behind_flag : List ℕ
  behind_flag = opt_text analyte_text n ++ (ion_text x ++ k)

  abbrev pub front_text : List ℕ
  front_text = flag_text (bytes "&") m ++ behind_flag

  pub behind_prefix : drop (prefix_length m n) front_text ≡ ion_text x ++ k
  behind_prefix =
      ap (drop (prefix_length m n)) (sym (append_assoc (flag_text (bytes "&") m) (opt_text analyte_text n) (ion_text x ++ k)))
      ∙ drop_is (flag_text (bytes "&") m ++ opt_text analyte_text n) (ion_text x ++ k) (sym (length-append (flag_text (bytes "&") m) (opt_text analyte_text n)))

  module _ (end : ℕ) (f : Option Refusal) where
    -- the first broken limit behind each
    abbrev pub prefix_fault : Option Refusal
    prefix_fault = after f ((opt_part analyte_part n).marks (end - length behind_flag))

    abbrev pub ion_fault : Option Refusal
    ion_fault = after prefix_fault (marks_of (end - length (ion_text x ++ k)) (ion_parts x))

    abbrev pub front_read : IonRead → Front
    front_read r =
        record {
          marked = m;
          analyte = analyte_number n;
          at = prefix_length m n;
          ion = r;
          formed = formed ed2 x;
          residues = residue_count x;
          len = prefix_length m n + length (ion_text x);
        }

    pub front_read_lem : EndsIon k → length front_text ≤ end → front_of end front_text f ≡ front_read (ion_read x ion_fault)
    front_read_lem e h =
        let hx = inside (opt_text analyte_text n) (ion_text x ++ k) (inside (flag_text (bytes "&") m) behind_flag h) in
        let q : prefix_length m n + length (ion_text x) ≡ length front_text - length k =
        omega (arith, length-append (flag_text (bytes "&") m) behind_flag, length-append (opt_text analyte_text n) (ion_text x ++ k), length-append (ion_text x) k) in
        sym (front_is end front_text f (sym (prefix_read_lem (ion_text x ++ k) (ion_no_mark x k) (ion_begins_apart x k) m n end f h)) (sym behind_prefix)
        (sym (ion_read_lem x k end prefix_fault e hx)) (sequence_read_lem x k ion_fault) (sym (drop_is (ion_text x) k (ion_told x ion_fault).len)) q)
