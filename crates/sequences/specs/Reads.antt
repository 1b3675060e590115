-- What a text is found to be. Assumes nothing.
use Rattle.std.specs.Prelude.{ℕ, List}
use Rattle.rules.specs.Sequences as rules
use Rattle.rules.specs.Sequences.{nothing, front_name, front_dash, residue, back_dash, back_name, broken, is_sequence, residues}
use Rattle.sequences.specs.declared.Phase.{Phase}
use Rattle.sequences.specs.declared.Phase.TheVariants.{Nothing, FrontName, FrontDash, Residue, BackDash, BackName, Broken}
use Rattle.sequences.specs.declared.SequenceRead.{SequenceRead}

-- the phases of the code are those of the definitions
abbrev pub phase_of : Phase → rules.Phase
phase_of Nothing = nothing
phase_of FrontName = front_name
phase_of FrontDash = front_dash
phase_of Residue = residue
phase_of BackDash = back_dash
phase_of BackName = back_name
phase_of Broken = broken

-- whether it is a sequence, and how many residues it has
abbrev pub sequence_of : List ℕ → SequenceRead
sequence_of w = record { formed = is_sequence w; residues = residues w }
