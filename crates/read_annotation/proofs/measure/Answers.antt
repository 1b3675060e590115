-- `read_annotation::measure` meets its contract: one lemma takes what each call ensures. Assumes nothing.
use mathlib.Core.Path.{ap, ◌∙◌}
use Rattle.layout.specs.Editions.{edition_of}
use Rattle.read_annotation.specs.Measured.{is_free}
use Rattle.read_annotation.proofs.Groups.{measure_is}
use Rattle.read_annotation.proofs.measure.Goals as goal

pub returns : goal.returns
returns c =
    measure_is (edition_of c.args.edition) c.args.s.now c.args.p c.share_of-share.ensures
    (c.is_free-free.ensures ∙ ap (is_free c.args.p.tail.confidence.bare) c.rest.ensures) c.rest-2.ensures c.rest-u.ensures
    c.own_counts.ensures c.plus.ensures c.if_asked.ensures c.keeps_rules.ensures c.rest-3.ensures c.minus_or_zero.ensures
