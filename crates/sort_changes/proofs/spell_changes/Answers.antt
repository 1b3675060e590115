-- `sort_changes::spell_changes` meets its contract: none, one that needs no order, or several by `spell_many`. Assumes nothing.
use native.Mathlib.Omega.{arith}
use Rattle.sort_changes.proofs.Spells.{spells_none, spells_more, spells_one}
use Rattle.sort_changes.proofs.spell_changes.Goals as goal

pub returns-in-None : goal.returns-in-None
returns-in-None c = spells_none (omega arith) (omega arith) c.in-None.ensures

pub returns-in-One : goal.returns-in-One
returns-in-One c = spells_one c.in-One.ensures c.put_head-at.ensures c.put_key.ensures

pub returns-in-Several : goal.returns-in-Several
returns-in-Several c = spells_more c.in-Several.ensures c.spell_many.ensures
