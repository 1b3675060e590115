-- `sort_slots::last_first` meets its contract: each slot is carried to the place of the next. Assumes nothing.
use Rattle.sort_slots.proofs.Carried.{Carrying}
use Rattle.sort_slots.proofs.last_first.Given as goal

abbrev pub invariant-loop-slot : goal.invariant-loop-slot
invariant-loop-slot l = Carrying l.initial.carried l.initial.slot-items l.slot-items l.slot-index l.carried
