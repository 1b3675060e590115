-- `numbers::whole_of` meets its contract: after i turns of its loop it has v without its last i digits. Assumes nothing.
use Rattle.numbers.proofs.Written.{whole_turn}
use Rattle.rules.specs.Decimals.{whole}
use mathlib.Core.Path.{refl}
use Rattle.numbers.proofs.whole_of.Goals as goal

pub loop-init : goal.loop-init
unfolding whole
loop-init c = refl

pub loop-preserved : goal.loop-preserved
loop-preserved c = whole_turn _ _ c.loop.invariant
