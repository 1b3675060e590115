-- `read_annotation::read_parts` meets its contract: one lemma takes the count's limit and the three groups. Assumes nothing.
use Rattle.read_annotation.proofs.Groups.{parts_are}
use Rattle.read_annotation.proofs.read_parts.Goals as goal

pub returns : goal.returns
returns c = parts_are c.args.end c.args.s.now c.args.f c.args.i c.minus_or_zero.ensures c.check_count-g.ensures c.read_front-front.ensures c.rest-t.ensures c.read_middle-middle.ensures c.rest.ensures c.read_tail-tail.ensures
