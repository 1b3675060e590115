-- `measure_line::add_first` meets its contract: a sum with nothing is the number itself, as all fit. Assumes nothing.
use Rattle.measure_line.proofs.AnnotationLoops.{first_added_lem}
use native.Mathlib.Omega.{arith}
use Rattle.measure_line.proofs.add_first.Goals as goal

pub returns : goal.returns
returns c =
    first_added_lem _ _ _ c.measure-m.ensures
    (omega arith)
    c.note.ensures c.note-2.ensures c.note-3.ensures c.advance.ensures
