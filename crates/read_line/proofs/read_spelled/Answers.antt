-- `read_line::read_spelled` meets its contract: by what was counted, and then by the output's length. Assumes nothing.
use native.Mathlib.Omega.{arith}
use Rattle.read_line.proofs.Answered.{spelled_refused, spelled_no_room, spelled_stored}
use Rattle.read_line.proofs.read_spelled.Goals as goal

pub returns-in-Some : goal.returns-in-Some
returns-in-Some c = spelled_refused _ _ c.read_at-first.ensures c.total-t.ensures c.first_refusal.ensures c.in-Some.is

pub returns-then-out-size : goal.returns-then-out-size
returns-then-out-size c = spelled_no_room _ _ c.read_at-first.ensures c.total-t.ensures c.first_refusal.ensures c.in_default.is c.size_of-size.ensures (omega (arith, c.if-out-size.true)) c.refuse.ensures

pub returns : goal.returns
returns c = spelled_stored _ _ c.read_at-first.ensures c.total-t.ensures c.first_refusal.ensures c.in_default.is c.size_of-size.ensures (omega (arith, c.if-out-size.false)) c.put_header-c.ensures c.store_all.ensures
