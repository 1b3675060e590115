-- `put_formula::put_unit` meets its contract: by whether there is a nucleon number. Assumes nothing.
use Rattle.put_formula.proofs.TextParts.{unit_plain, unit_labelled}
use Rattle.put_bytes.proofs.Putting.{put_as}
use Rattle.put_formula.proofs.put_unit.Goals as goal

pub returns-then-u-eq0 : goal.returns-then-u-eq0
returns-then-u-eq0 c = put_as c.put_plain.ensures (unit_plain _ c.if-u-eq0.true)

pub returns-else-u-eq0 : goal.returns-else-u-eq0
returns-else-u-eq0 c = put_as c.put_labelled.ensures (unit_labelled _ c.if-u-eq0.false)
