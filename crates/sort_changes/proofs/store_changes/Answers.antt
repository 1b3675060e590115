-- `sort_changes::store_changes` meets its contract: none, one that needs no order, or several by `store_many`. Assumes nothing.
use native.Mathlib.Omega.{arith}
use Rattle.sort_changes.proofs.Gathers.{stores_none}
use Rattle.sort_changes.proofs.Alone.{stores_one}
use Rattle.sort_changes.proofs.store_changes.Goals as goal

pub returns-in-None : goal.returns-in-None
returns-in-None c = stores_none (omega arith) c.in-None.ensures

pub returns-in-One : goal.returns-in-One
returns-in-One c = stores_one c.in-One.ensures c.advance.ensures c.put_slot.ensures
