-- `io_parts::keep` meets its contract. Assumes nothing.
use Rattle.io_parts.proofs.Moves.{Moving}
use Rattle.io_parts.proofs.keep.Given as goal

abbrev pub invariant-loop-done : goal.invariant-loop-done
invariant-loop-done l = Moving l.initial.buf l.from l.kept l.done l.buf
