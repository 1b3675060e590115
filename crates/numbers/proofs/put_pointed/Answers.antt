-- `numbers::put_pointed` meets its contract: the whole number alone, or with point and places behind it. Assumes nothing.
use Rattle.numbers.proofs.Written.{put_whole, put_pointed}
use Rattle.put_bytes.proofs.Putting.{put_as}
use Rattle.rules.specs.Numbers.{digits}
use mathlib.Core.Path.{ap}
use native.Mathlib.Omega.{arith}
use Rattle.numbers.proofs.put_pointed.Goals as goal

pub returns-then-places-eq0 : goal.returns-then-places-eq0
returns-then-places-eq0 c = put_whole _ _ (put_as c.put_number-behind.ensures (ap digits c.whole_of.ensures)) (omega (arith, c.if-places-eq0.true))

pub returns-else-places-eq0 : goal.returns-else-places-eq0
returns-else-places-eq0 c =
    put_pointed _ _ (put_as c.put_number-behind.ensures (ap digits c.whole_of.ensures)) (omega (arith, c.if-places-eq0.false)) c.put8-to.ensures
    c.put_last.ensures
