-- An ion as it is read where it is spelled. Assumes nothing.
use Prim.Native.Nat.{ℕ, ◌+◌}
use mathlib.Core.Path.{◌≡◌, sym, ap}
use mathlib.Core.List.{List, [], ◌++◌, append-nil}
use lib.ListN.{length}
use Rattle.std.specs.Prelude.{Option}
use Rattle.lang.specs.Parts.{Opt, silent, written, opt_text, items, word_of}
use Rattle.lang.specs.Mark.{Mark}
use Rattle.rules.specs.Numbers.{Number, number_text}
use Rattle.rules.specs.Ions.{SpelledIon, series, internal, immonium, precursor, reference, named, composed, smiles, unknown, ion_text}
use Rattle.rules.specs.Fields.{filled_cut}
use Rattle.rules.specs.Stored.{bytes_of, held_cut}
use Rattle.faults.specs.declared.Refusal.{Refusal}
use Rattle.faults.specs.Faults.{after}
use Rattle.read_formula.proofs.Spelled.{capped}
use Rattle.read_ion.specs.declared.IonKind.TheVariants as kinds
use Rattle.read_ion.specs.declared.IonRead.{IonRead}

-- a label as it is read; a silent one is 0
abbrev pub label_read : Opt Number → ℕ
label_read silent = 0
label_read (written n) = capped n.value

-- an ion as it is read, with the first broken limit
abbrev pub ion_read : SpelledIon → Option Refusal → IonRead
ion_read (series s n t) g =
    record { kind = kinds.Series; letter = s.which + 1; position = capped n.value; last = 0; start = length (word_of s) + length (number_text n); units = 0; text = length (bytes_of t); len = length (ion_text (series s n t)); fault = g }
ion_read (internal c m n t) g =
    record { kind = kinds.Internal; letter = held_cut (filled_cut c); position = capped m.value; last = capped n.value; start = 1 + length (opt_text word_of c) + length (number_text m) + 1 + length (number_text n); units = 0; text = length (bytes_of t); len = length (ion_text (internal c m n t)); fault = g }
ion_read (immonium a m) g =
    record { kind = kinds.Immonium; letter = a.val; position = 0; last = 0; start = 2; units = 0; text = length (bytes_of m); len = length (ion_text (immonium a m)); fault = g }
ion_read precursor g = record { kind = kinds.Precursor; letter = 0; position = 0; last = 0; start = 1; units = 0; text = 0; len = length (ion_text precursor); fault = g }
ion_read (reference n) g = record { kind = kinds.Reference; letter = 0; position = 0; last = 0; start = 1; units = 0; text = length n.bytes; len = length (ion_text (reference n)); fault = g }
ion_read (named t) g = record { kind = kinds.Named; letter = 0; position = 0; last = 0; start = 1; units = 0; text = length t.bytes; len = length (ion_text (named t)); fault = g }
ion_read (composed x) g = record { kind = kinds.Composed; letter = 0; position = 0; last = 0; start = 2; units = length (items x); text = 0; len = length (ion_text (composed x)); fault = g }
ion_read (smiles t) g = record { kind = kinds.Smiles; letter = 0; position = 0; last = 0; start = 1; units = 0; text = length t.bytes; len = length (ion_text (smiles t)); fault = g }
ion_read (unknown n) g = record { kind = kinds.Unknown; letter = 0; position = label_read n; last = 0; start = 1; units = 0; text = 0; len = length (ion_text (unknown n)); fault = g }

-- nothing comes after the last marks
pub ended : (g : Option Refusal) (ms : List Mark) → after g ms ≡ after g (ms ++ [])
ended g ms = ap (after g) (sym (append-nil ms))
