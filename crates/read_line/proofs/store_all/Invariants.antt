-- `read_line::store_all` meets its contract: an empty line; else the loop, which walks the line and runs its events. Assumes nothing.
use Rattle.read_line.proofs.Storing.{Storing}
use lib.ListN.{length}
use Rattle.layout.specs.Editions.{edition_of}
use Prim.Native.Nat.{◌-◌}
use Rattle.read_line.proofs.store_all.Given as goal

abbrev pub invariant-loop-edition : goal.invariant-loop-edition
invariant-loop-edition l = Storing (edition_of l.edition) l.line l.initial.out l.initial.t l.out l.t

abbrev pub decreases-loop-edition : goal.decreases-loop-edition
decreases-loop-edition l = length l.line - l.t.at
