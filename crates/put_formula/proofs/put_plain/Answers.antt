-- `put_formula::put_plain` meets its contract: the symbol alone, or a count above 1 behind it. Assumes nothing.
use Rattle.put_formula.proofs.TextParts.{plain_one, plain_more}
use Rattle.put_bytes.proofs.Putting.{put_then, put_as}
use Rattle.put_formula.proofs.put_plain.Goals as goal

pub returns-then-u-le1 : goal.returns-then-u-le1
returns-then-u-le1 c = put_as c.put_symbol-p.ensures (plain_one _ c.if-u-le1.true)

pub returns-else-u-le1 : goal.returns-else-u-le1
returns-else-u-le1 c = put_as (put_then c.put_symbol-p.ensures c.put_number.ensures) (plain_more _ c.if-u-le1.false)
