-- `numbers::digits_from` meets its contract: in its loop the digits passed, and those left, make the whole. Assumes nothing.
use Rattle.numbers.proofs.Walks.{Passed}
use Rattle.numbers.proofs.digits_from.Given as goal

abbrev pub invariant-loop-len : goal.invariant-loop-len
invariant-loop-len l = Passed l.s l.before l.most l.value l.len
