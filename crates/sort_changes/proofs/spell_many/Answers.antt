-- `sort_changes::spell_many` meets its contract: all gathered, then all slots spelled. Assumes nothing.
use Rattle.sort_changes.proofs.Spells.{spells_all}
use Rattle.sort_changes.proofs.spell_many.Goals as goal

pub returns : goal.returns
returns c = spells_all c.gather_all-g.ensures c.held.ensures c.spell_slots-end.ensures
