-- `respell_row::refuse_line` meets its contract. Assumes nothing.
use borrow.Author.Rules.{rules}
use Rattle.respell_row.proofs.Steps.{line_refused}
use mathlib.Core.Path.{sym}
use lib.Seq.{length-take-le}
use Rattle.respell_row.proofs.refuse_line.Goals as goal

pub slice_bounds-clear-end-2 : goal.slice_bounds-clear-end-2
slice_bounds-clear-end-2 c = sym (length-take-le _ _ (search rules))

pub returns : goal.returns
returns c = line_refused c.args.out.now c.args.at c.args.n c.args.line c.advance-to.ensures c.clear.ensures c.place_in_row.ensures c.refuse.ensures
