-- `sequences::read_sequence` meets its contract: the loop is the walk, byte by byte. Assumes nothing.
use Rattle.sequences.proofs.Walks.{Passed}
use Rattle.sequences.proofs.read_sequence.Given as goal

abbrev pub invariant-loop-b : goal.invariant-loop-b
invariant-loop-b l = Passed l.s l.progress l.b-index
