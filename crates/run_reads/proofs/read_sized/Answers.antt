-- `run_reads::read_sized` meets its contract. Assumes nothing.
use mathlib.Core.Path.{sym, refl}
use lib.Seq.{length-take-le}
use borrow.Author.Rules.{rules}
use Rattle.run_reads.proofs.Reading.{read_behind}
use Rattle.run_reads.proofs.read_sized.Goals as goal

pub slice_bounds-read_as-end-2 : goal.slice_bounds-read_as-end-2
slice_bounds-read_as-end-2 c = sym (length-take-le _ _ (search rules))

pub returns : goal.returns
returns c =
    let a = c.args in
    read_behind a.asked.now a.table.now _ c.behind_size-line.ensures c.size_in-bytes.ensures c.read_as.ensures c.table-1.given.0 refl
