-- `numbers::put_number` calls itself for a number of one digit fewer. Assumes nothing.
use Rattle.numbers.proofs.+put_number.Given as goal

abbrev pub decreases-put_number : goal.decreases-put_number
decreases-put_number l = l.n
