-- `read_line::read_by` meets its contract: by the line's length. Assumes nothing.
use native.Mathlib.Omega.{arith}
use Rattle.read_line.proofs.Answered.{read_long, read_within}
use Rattle.read_line.proofs.read_by.Goals as goal

pub returns-then-line-gt-MAX_LINE : goal.returns-then-line-gt-MAX_LINE
returns-then-line-gt-MAX_LINE c = read_long _ _ _ c.clear.ensures (omega (arith, c.if-line-gt-MAX_LINE.true)) c.refuse.ensures

pub returns : goal.returns
returns c = read_within _ _ _ c.clear.ensures (omega (arith, c.if-line-gt-MAX_LINE.false)) c.read_any.ensures
