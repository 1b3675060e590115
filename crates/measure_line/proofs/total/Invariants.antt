-- `measure_line::total` meets its contract: an empty line, or in its loop those counted, and those left, make the whole. Assumes nothing.
use Rattle.measure_line.proofs.AnnotationLoops.{Counting}
use lib.ListN.{length}
use Prim.Native.Nat.{◌-◌}
use Rattle.layout.specs.Editions.{edition_of}
use Rattle.measure_line.proofs.total.Given as goal

abbrev pub invariant-loop-edition : goal.invariant-loop-edition
invariant-loop-edition l = Counting (edition_of l.edition) l.line l.initial.t l.t

abbrev pub decreases-loop-edition : goal.decreases-loop-edition
decreases-loop-edition l = length l.line - l.t.at
