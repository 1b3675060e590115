-- `sort_changes::store_many` meets its contract: all gathered, then all slots put. Assumes nothing.
use Rattle.sort_changes.proofs.Gathers.{stores_all}
use Rattle.sort_changes.proofs.store_many.Goals as goal

pub returns : goal.returns
returns c = stores_all c.gather_all-g.ensures c.held-slots.ensures c.put_slots-cursors.ensures
