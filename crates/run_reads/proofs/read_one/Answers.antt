-- `run_reads::read_one` meets its contract. Assumes nothing.
use borrow.Author.Rules.{rules}
use Rattle.run_reads.proofs.Reading.{read_whole, read_tested}
use Rattle.run_reads.proofs.read_one.Goals as goal

pub returns-then-sized : goal.returns-then-sized
returns-then-sized c = read_tested c.if-sized.true c.read_sized.ensures

pub returns-else-sized : goal.returns-else-sized
returns-else-sized c = read_tested c.if-sized.false (read_whole _ _ _ (search rules) c.read_as.ensures)
