-- `answers::close_line` meets its contract: by the length of the line and of the output. Assumes nothing.
use Rattle.answers.proofs.Lines.{line_long, line_no_room, line_fits}
use Rattle.answers.proofs.close_line.Goals as goal

pub returns-then-n-gt-MAX_LINE : goal.returns-then-n-gt-MAX_LINE
returns-then-n-gt-MAX_LINE c = line_long _ _ c.if-n-gt-MAX_LINE.true c.clear.ensures c.refuse.ensures

pub returns-then-out-n : goal.returns-then-out-n
returns-then-out-n c = line_no_room _ _ c.if-n-gt-MAX_LINE.false c.if-out-n.true c.clear-then-out-n.ensures c.refuse-then-out-n.ensures

pub returns : goal.returns
returns c = line_fits _ _ c.if-n-gt-MAX_LINE.false c.if-out-n.false c.clear_from.ensures
