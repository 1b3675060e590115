-- `respell_annotation::is_kept` meets its contract: what breaks it is found first, or the bytes decide. Assumes nothing.
use native.Mathlib.Omega.{arith}
use Rattle.std.proofs.lemmas.Grind.{common_steps}
use Rattle.respell_annotation.specs.Kept.{is_kept}
use Rattle.respell_annotation.proofs.Steps.{by_bytes}
use Rattle.respell_annotation.proofs.is_kept.Goals as goal

pub returns-then-not-free : goal.returns-then-not-free
returns-then-not-free c =
    let h = c.if-not-free.true in
    by_bytes _ _ _ _ h.0 h.1 h.2 h.3 c.contains.ensures.value

pub returns-else-not-free : goal.returns-else-not-free
unfolding is_kept
returns-else-not-free c = grind (arith, common_steps)
