-- `read_row::read_behind` meets its contract. Assumes nothing.
use borrow.Author.Rules.{rules}
use Rattle.answers.proofs.Behind.{lent}
use Rattle.scan_line.specs.Steps.{scanned_by}
use Rattle.read_line.specs.Readings.{read_of}
use Rattle.read_row.proofs.read_behind.Goals as goal

pub returns : goal.returns
returns c = lent (λ n. read_of (scanned_by c.args.machine.now c.args.line.now) c.args.line.now n) 20 c.args.out.now c.advance-from.ensures (search rules) c.read_by.ensures
