-- `print_ion::print_flag` meets its contract: by whether the flag's byte is 0. Assumes nothing.
use Rattle.print_ion.proofs.TextParts.{flag_none, flag_some}
use native.Mathlib.Omega.{arith}
use Rattle.put_bytes.proofs.Putting.{put_none, put_as}
use Rattle.print_ion.proofs.print_flag.Goals as goal

pub returns-then-byte_of-eq0 : goal.returns-then-byte_of-eq0
returns-then-byte_of-eq0 c = put_as (put_none (omega arith) (omega arith)) (flag_none _ c.byte_of.ensures c.if-byte_of-eq0.true)

pub returns-else-byte_of-eq0 : goal.returns-else-byte_of-eq0
returns-else-byte_of-eq0 c = put_as c.put8.ensures (flag_some _ c.byte_of.ensures c.if-byte_of-eq0.false)
