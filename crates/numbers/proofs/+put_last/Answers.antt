-- `numbers::put_last` meets its contract: by recursion on how many digits, none, or all but the last and then it. Assumes nothing.
use Rattle.std.proofs.Common.{arith}
use Rattle.numbers.proofs.Written.{put_no_place, put_place_more}
use Rattle.numbers.proofs.+put_last.Goals as goal

pub returns-then-n-eq0 : goal.returns-then-n-eq0
returns-then-n-eq0 t c = put_no_place _ _ (omega arith) (omega arith) (omega (arith, c.if-n-eq0.true))

pub returns-else-n-eq0 : goal.returns-else-n-eq0
returns-else-n-eq0 t c = put_place_more _ _ (omega (arith, c.if-n-eq0.false)) c.put_last-to.ensures c.put8.ensures
