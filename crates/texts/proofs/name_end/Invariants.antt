-- `texts::name_end` meets its contract: all bytes before a place go on with a name, until one does not. Assumes nothing.
use Rattle.texts.proofs.NameLoop.{Passed}
use Rattle.texts.proofs.name_end.Given as goal

abbrev pub invariant-loop-len : goal.invariant-loop-len
invariant-loop-len l = Passed l.s l.len l.depth
