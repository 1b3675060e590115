-- `read_isotopes::spell_isotope` meets its contract. Assumes nothing.
use Rattle.read_isotopes.proofs.Parts.{spelled_is}
use Rattle.read_isotopes.proofs.spell_isotope.Goals as goal

pub returns : goal.returns
returns c = spelled_is c.args.s.now c.args.x c.read_head-h.ensures c.minus_or_zero.ensures c.part.ensures c.put_head-at.ensures c.put_run.ensures
