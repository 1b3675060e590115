-- The sequence of an ion (document 02, M-105): the text in the braces of a series or an internal ion. Assumes nothing.
use Rattle.std.specs.Prelude.{ℕ, Bool, true, cond, ◌&&◌, ◌||◌, List, eqb, leb, take, drop}
use Rattle.sequences.specs.declared.SequenceRead.{SequenceRead}
use Rattle.sequences.specs.Reads.{sequence_of}
use Rattle.read_ion.specs.Stored.{kind_number}
use Rattle.read_ion.specs.declared.IonRead.{IonRead}

unfoldable pub has_sequence : IonRead → Bool
has_sequence x = (eqb (kind_number x.kind) 1 || eqb (kind_number x.kind) 2) && leb 1 x.text

-- without one there is nothing to ask of it
abbrev pub no_sequence : SequenceRead
no_sequence = record { formed = true; residues = 0 }

-- s begins with the ion; behind its start stands the brace
unfoldable pub sequence_of_ion : List ℕ → IonRead → SequenceRead
sequence_of_ion s x = cond (has_sequence x) (sequence_of (take x.text (drop 1 (drop x.start s)))) no_sequence
