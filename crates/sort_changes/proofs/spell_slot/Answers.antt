-- `sort_changes::spell_slot` meets its contract. Assumes nothing.
use Rattle.sort_changes.proofs.Spells.{slot_put}
use Rattle.sort_changes.proofs.spell_slot.Goals as goal

pub returns : goal.returns
returns c = slot_put _ _ c.put_head-at.ensures c.part.ensures c.put_run.ensures
