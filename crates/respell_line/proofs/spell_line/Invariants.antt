-- `respell_line::spell_line` meets its contract. Assumes nothing.
use Rattle.respell_line.proofs.Spelling.{Spelling}
use lib.ListN.{length}
use Prim.Native.Nat.{◌-◌}
use Rattle.respell_line.proofs.spell_line.Given as goal

abbrev pub invariant-loop-from : goal.invariant-loop-from
invariant-loop-from l = Spelling l.line l.initial.out l.initial.to l.initial.at l.out l.to l.at

abbrev pub decreases-loop-from : goal.decreases-loop-from
decreases-loop-from l = length l.line - l.at
