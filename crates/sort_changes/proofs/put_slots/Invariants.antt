-- `sort_changes::put_slots` meets its contract: in its loop the slots left to store make the whole. Assumes nothing.
use lib.ListN.{drop}
use Rattle.store_sections.proofs.StoreLoop.{StoredSoFar}
use Rattle.sort_changes.specs.Events.{slots_events}
use Rattle.sort_changes.proofs.put_slots.Given as goal

abbrev pub invariant-loop-x : goal.invariant-loop-x
invariant-loop-x l = StoredSoFar l.initial.out l.initial.to (slots_events l.j l.s l.slots) l.out l.to (slots_events l.j l.s (drop l.x-index l.slots))
