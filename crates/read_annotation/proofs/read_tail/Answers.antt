-- `read_annotation::read_tail` meets its contract: one lemma takes charge, deviation and confidence in turn. Assumes nothing.
use Rattle.read_annotation.proofs.Groups.{tail_is}
use Rattle.read_annotation.proofs.read_tail.Goals as goal

pub returns : goal.returns
returns c = tail_is c.args.end c.args.s.now c.args.f c.read_charge-c.ensures c.rest-t.ensures c.read_deviation-d.ensures c.rest-u.ensures c.read_confidence-e.ensures c.rest.ensures c.minus_or_zero.ensures
