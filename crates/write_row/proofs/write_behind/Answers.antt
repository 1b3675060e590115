-- `write_row::write_behind` meets its contract. Assumes nothing.
use borrow.Author.Rules.{rules}
use Rattle.answers.proofs.Behind.{lent}
use Rattle.write_table.specs.Writings.{written_of}
use Rattle.write_row.proofs.write_behind.Goals as goal

pub returns : goal.returns
returns c = lent (λ n. written_of c.args.machine.now c.args.table.now n) c.args.at c.args.out.now c.advance-from.ensures (search rules) c.write_by.ensures
