-- `sort_changes::spell_slots` meets its contract: in its loop the slots left to spell make the whole. Assumes nothing.
use mathlib.Core.Path.{ap}
use lib.ListN.{drop_of_length-le}
use Rattle.std.proofs.lemmas.List.{drop_more}
use Rattle.lang.specs.Parts.{flat}
use Rattle.put_bytes.proofs.PutLoop.{more, ends}
use Rattle.sort_changes.specs.Spelled.{slot_spelled}
use Rattle.sort_changes.proofs.spell_slots.Goals as goal

pub loop-x-preserved : goal.loop-x-preserved
loop-x-preserved c =
    let a = c.args in
    more c.loop-x.invariant c.spell_slot-end.ensures (ap (flat (slot_spelled a.keys.now)) (drop_more a.slots.now c.loop-x.x-index _ c.loop-x-test.true))

pub returns : goal.returns
returns c =
    let a = c.args in
    ends c.loop-x.invariant (ap (flat (slot_spelled a.keys.now)) (drop_of_length-le a.slots.now c.loop-x-test.false))
