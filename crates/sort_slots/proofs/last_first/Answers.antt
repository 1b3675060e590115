-- `sort_slots::last_first` meets its contract: each slot is carried to the place of the next. Assumes nothing.
use native.Mathlib.Omega.{arith}
use Rattle.sort_slots.proofs.Carried.{carry, rotated}
use Rattle.sort_slots.proofs.last_first.Goals as goal

pub loop-slot-preserved : goal.loop-slot-preserved
loop-slot-preserved c = carry _ c.loop-slot.invariant (omega arith) c.swap.ensures.x_after c.swap.ensures.y_after

pub returns-clause-after : goal.returns-clause-after
returns-clause-after c = let e = c.in-Some.ensures.item in rotated _ c.loop-slot.invariant (omega arith) (omega (arith, e.3.0)) e.1
