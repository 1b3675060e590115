-- `read_annotation::read_front` meets its contract: one lemma takes prefix, ion, its sequence and what is left behind. Assumes nothing.
use Rattle.read_annotation.proofs.Groups.{front_is}
use Rattle.read_annotation.proofs.read_front.Goals as goal

pub returns : goal.returns
returns c =
    front_is c.args.end c.args.s.now c.args.f c.read_prefix-p.ensures c.rest-t.ensures c.ion-x.ensures
    c.sequence_of-q.ensures c.rest.ensures c.minus_or_zero-len.ensures
