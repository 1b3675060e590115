-- `print_parts::print_which` meets its contract. Assumes nothing.
use native.Mathlib.Omega.{arith}
use Rattle.put_bytes.proofs.Putting.{put_none, put_then, put_as}
use Rattle.print_parts.proofs.Tests.{which_plain, which_average, which_specific}
use Rattle.print_parts.proofs.print_which.Goals as goal

pub returns-in-0 : goal.returns-in-0
returns-in-0 c = put_as (put_none (omega arith) (omega arith)) (which_plain c.args.s.now c.byte_of.ensures c.in-0.is)

pub returns-in-1 : goal.returns-in-1
returns-in-1 c = put_as c.put8.ensures (which_average c.args.s.now c.byte_of.ensures (λ e. omega (arith, e, c.in-1.is)) c.in-1.is)

pub returns-in_default : goal.returns-in_default
returns-in_default c =
    put_as (put_then c.put_number-a.ensures c.put_symbol.ensures)
    (which_specific c.args.s.now c.byte_of.ensures (λ e. omega (arith, e)) (λ e. omega (arith, e))
    c.rest.ensures c.u16_at.ensures c.rest-in_default.ensures c.u16_at-in_default.ensures)
