-- `respell_row::relabel_behind` meets its contract. Assumes nothing.
use borrow.Author.Rules.{rules}
use Rattle.lines.specs.Relabels.{relabelled_of}
use Rattle.scan_line.specs.Steps.{scanned_by}
use Rattle.answers.proofs.Behind.{lent}
use Rattle.respell_row.proofs.relabel_behind.Goals as goal

pub returns : goal.returns
returns c = lent (λ n. relabelled_of (scanned_by c.args.machine.now c.args.line.now) c.args.line.now n) c.args.at c.args.out.now c.advance-from.ensures (search rules) c.relabel_by.ensures
