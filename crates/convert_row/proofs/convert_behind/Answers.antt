-- `convert_row::convert_behind` meets its contract. Assumes nothing.
use borrow.Author.Rules.{rules}
use Rattle.answers.proofs.Behind.{lent}
use Rattle.write_table.specs.Writings.{converted_of}
use Rattle.convert_row.proofs.convert_behind.Goals as goal

pub returns : goal.returns
returns c = lent (λ n. converted_of c.args.machine.now c.args.table.now n) 20 c.args.out.now c.advance-from.ensures (search rules) c.convert_by.ensures
