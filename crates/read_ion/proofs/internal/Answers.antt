-- `read_ion::internal` meets its contract: one lemma takes the letters, both numbers, their limits and the text. Assumes nothing.
use Rattle.read_ion.proofs.Found.{internal_is}
use Rattle.read_ion.proofs.internal.Goals as goal

pub returns : goal.returns
returns c =
    internal_is c.args.s.now c.args.end c.args.f c.rest.ensures c.read_cut-c.ensures c.advance-from.ensures
    c.rest-2.ensures c.read_number-a.ensures
    c.minus_or_zero.ensures c.minus_or_zero-2.ensures c.check_number-g.ensures
    c.advance-colon.ensures c.advance-p.ensures c.rest-3.ensures c.read_number-b.ensures
    c.minus_or_zero-3.ensures c.minus_or_zero-4.ensures c.check_number-h.ensures
    c.advance-at.ensures c.rest-4.ensures c.text_in_braces-x.ensures c.with_text.ensures
