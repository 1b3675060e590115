-- `elements::second_letter` meets its contract: no second byte, one below `a`, above `z`, or a small letter. Assumes nothing.
use Rattle.elements.proofs.Begins.{second_none, second_below, second_above, second_in}
use Rattle.elements.proofs.second_letter.Goals as goal

pub returns-then-s-lt2 : goal.returns-then-s-lt2
returns-then-s-lt2 c = second_none c.args.s.now c.if-s-lt2.true

pub returns-then-b-lt97 : goal.returns-then-b-lt97
returns-then-b-lt97 c = second_below c.args.s.now c.if-s-lt2.false c.if-b-lt97.true

pub returns-then-b-gt122 : goal.returns-then-b-gt122
returns-then-b-gt122 c = second_above c.args.s.now c.if-s-lt2.false c.if-b-gt122.true

pub returns : goal.returns
returns c = second_in c.args.s.now c.if-s-lt2.false c.if-b-lt97.false c.if-b-gt122.false
