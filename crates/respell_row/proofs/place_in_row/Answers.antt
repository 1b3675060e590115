-- `respell_row::place_in_row` meets its contract. Assumes nothing.
use Rattle.respell_row.proofs.Steps.{place_moved, place_long, place_kept}
use Rattle.respell_row.proofs.place_in_row.Goals as goal

pub returns-then-n-le-MAX_LINE : goal.returns-then-n-le-MAX_LINE
returns-then-n-le-MAX_LINE c = place_kept c.args.line.why c.args.line.place c.args.n c.args.at c.in-LineTooLong.is c.if-n-le-MAX_LINE.true

pub returns-else-n-le-MAX_LINE : goal.returns-else-n-le-MAX_LINE
returns-else-n-le-MAX_LINE c = place_long c.args.line.why c.args.line.place c.args.n c.args.at c.in-LineTooLong.is c.if-n-le-MAX_LINE.false c.plus.ensures

pub returns-in_default : goal.returns-in_default
returns-in_default c = place_moved c.args.line.why c.args.line.place c.args.n c.args.at c.in_default.not-LineTooLong c.plus-in_default.ensures
