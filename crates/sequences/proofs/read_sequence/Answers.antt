-- `sequences::read_sequence` meets its contract: the loop is the walk, byte by byte. Assumes nothing.
use mathlib.Core.Path.{refl}
use borrow.Author.Rules.{rules}
use borrow.Author.Tests.{ne_eqb}
use Rattle.sequences.proofs.Walks.{turn, left_open, ends}
use Rattle.sequences.proofs.read_sequence.Goals as goal

pub loop-b-preserved : goal.loop-b-preserved
loop-b-preserved c =
    let e = c.behind-progress.ensures in
    turn c.loop-b.invariant c.loop-b-test.true e.phase e.depth e.empty e.residues

pub returns-then-progress-eq0 : goal.returns-then-progress-eq0
returns-then-progress-eq0 c = ends c.loop-b.invariant c.loop-b-test.false (rw c.if-progress-eq0.true refl) c.may_end.ensures

pub returns-else-progress-eq0 : goal.returns-else-progress-eq0
returns-else-progress-eq0 c = left_open c.loop-b.invariant c.loop-b-test.false (search rules) (ne_eqb _ 0 c.if-progress-eq0.false)
