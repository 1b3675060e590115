-- `sort_changes::spell_slots` meets its contract: in its loop the slots left to spell make the whole. Assumes nothing.
use lib.ListN.{drop}
use Rattle.put_bytes.proofs.PutLoop.{PutSoFar}
use Rattle.sort_changes.specs.Spelled.{slots_spelled}
use Rattle.sort_changes.proofs.spell_slots.Given as goal

abbrev pub invariant-loop-x : goal.invariant-loop-x
invariant-loop-x l = PutSoFar l.initial.out l.initial.end (slots_spelled l.keys l.slots) l.out l.end (slots_spelled l.keys (drop l.x-index l.slots))
