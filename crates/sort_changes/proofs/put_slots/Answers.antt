-- `sort_changes::put_slots` meets its contract: in its loop the slots left to store make the whole. Assumes nothing.
use mathlib.Core.Path.{ap}
use lib.ListN.{drop_of_length-le}
use Rattle.std.proofs.lemmas.List.{drop_more}
use Rattle.lang.specs.Parts.{flat}
use Rattle.store_sections.proofs.StoreLoop.{more, ends}
use Rattle.sort_changes.specs.Events.{slot_events}
use Rattle.sort_changes.proofs.put_slots.Goals as goal

pub loop-x-preserved : goal.loop-x-preserved
loop-x-preserved c =
    let a = c.args in
    more c.loop-x.invariant c.put_slot-to.ensures (ap (flat (slot_events a.j a.s.now)) (drop_more a.slots.now c.loop-x.x-index _ c.loop-x-test.true))

pub returns : goal.returns
returns c =
    let a = c.args in
    ends c.loop-x.invariant (ap (flat (slot_events a.j a.s.now)) (drop_of_length-le a.slots.now c.loop-x-test.false))
