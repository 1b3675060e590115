-- `print_parts::print_signed` meets its contract. Assumes nothing.
use native.Mathlib.Omega.{arith}
use Rattle.put_bytes.proofs.Putting.{put_then, put_as}
use Rattle.print_parts.proofs.Tests.{signed_plus, signed_minus}
use Rattle.print_parts.proofs.print_signed.Goals as goal

pub returns-then-signed-lt0 : goal.returns-then-signed-lt0
returns-then-signed-lt0 c =
    put_as (put_then c.put8-a.ensures c.put_pointed.ensures)
    (signed_minus _ _ (omega arith) c.cast_signed-signed.ensures c.unsigned_abs-size.ensures.value c.if-signed-lt0.true)

pub returns-else-signed-lt0 : goal.returns-else-signed-lt0
returns-else-signed-lt0 c =
    put_as c.put_pointed-else-signed-lt0.ensures
    (signed_plus _ _ (omega arith) c.cast_signed-signed.ensures c.unsigned_abs-size.ensures.value c.if-signed-lt0.false)
