-- `elements::read_element` meets its contract: no capital first, or the number of the letters read. Assumes nothing.
use Rattle.elements.proofs.Begins.{element_none, element_some, element_is}
use Rattle.elements.proofs.read_element.Goals as goal

pub returns-then-len-lt1 : goal.returns-then-len-lt1
returns-then-len-lt1 c = element_none c.args.s.now c.symbol_len-len.ensures c.if-len-lt1.true

pub bounds-s-0 : goal.bounds-s-0
bounds-s-0 c = element_some c.args.s.now c.symbol_len-len.ensures c.if-len-lt1.false

pub returns-else-len-lt1 : goal.returns-else-len-lt1
returns-else-len-lt1 c = element_is c.args.s.now c.symbol_len-len.ensures c.if-len-lt1.false c.second_letter.ensures c.atomic.ensures
