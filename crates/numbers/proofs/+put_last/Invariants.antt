-- `numbers::put_last` calls itself for one digit fewer. Assumes nothing.
use Rattle.numbers.proofs.+put_last.Given as goal

abbrev pub decreases-put_last : goal.decreases-put_last
decreases-put_last l = l.n
