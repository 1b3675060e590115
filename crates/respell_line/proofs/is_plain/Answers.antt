-- `respell_line::is_plain` meets its contract. Assumes nothing.
use native.Mathlib.Omega.{arith}
use Rattle.std.proofs.lemmas.Grind.{common_steps}
use Rattle.respell_line.specs.Plain.{is_plain}
use Rattle.respell_line.proofs.SpellsLine.{by_units}
use Rattle.respell_line.proofs.is_plain.Goals as goal

pub returns-then-n-eq0-3 : goal.returns-then-n-eq0-3
returns-then-n-eq0-3 c = let h = c.if-n-eq0-3.true in by_units _ _ h.0 h.1 h.2 h.3

pub returns-else-n-eq0-3 : goal.returns-else-n-eq0-3
unfolding is_plain
returns-else-n-eq0-3 c = grind (arith, common_steps)
