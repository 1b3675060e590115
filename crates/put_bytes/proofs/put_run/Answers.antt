-- `put_bytes::put_run` meets its contract: over a part where all fit, and as the loop does where they do not. Assumes nothing.
use Rattle.put_bytes.proofs.Putting.{put_part}
use lib.ListN.{length}
use Prim.Native.Nat.{◌+◌}
use mathlib.Core.Path.{refl, sym, ◌∙◌}
use native.Mathlib.Nat.{add-sub_cancel_left}
use native.Mathlib.Omega.{arith}
use borrow.Author.Tests.{leb-true}
use Rattle.put_bytes.proofs.put_run.Goals as goal

pub returns-then-has_room : goal.returns-then-has_room
returns-then-has_room c =
    let a = c.args in
    let h = leb-true (a.at + length a.s.now) (length a.out.now) (sym c.has_room.ensures ∙ c.if-has_room.true) in
    put_part (omega arith) h (add-sub_cancel_left a.at (length a.s.now)) refl c.fill.ensures
