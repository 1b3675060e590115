-- `scan_line::Progress::over` meets its contract: the loop is the walk. Assumes nothing.
use Rattle.scan_line.proofs.Walks.{Walking}
use Rattle.scan_line.proofs.Progress.over.Given as goal

abbrev pub invariant-loop-i : goal.invariant-loop-i
invariant-loop-i l = Walking l.machine l.part l.self.at l.self.state l.self.depth l.q l.d l.i
