-- `put_bytes::put_le` meets its contract: over a part where all fit, and as the loop does where they do not. Assumes nothing.
use Rattle.put_bytes.proofs.Putting.{put_part}
use Rattle.rules.specs.Stored.{little}
use Rattle.rules.proofs.Lengths.{little_length}
use lib.ListN.{length}
use Prim.Native.Nat.{ℕ, ◌+◌}
use mathlib.Core.Path.{sym, ap, ◌∙◌}
use native.Mathlib.Nat.{add-sub_cancel_left}
use native.Mathlib.Omega.{arith}
use borrow.Rule.Slice.PartMut.{mid_len}
use borrow.Author.Tests.{leb-true}
use Rattle.put_bytes.proofs.put_le.Goals as goal

pub returns-then-has_room : goal.returns-then-has_room
returns-then-has_room c =
    let a = c.args in
    let h = leb-true (a.at + a.n) (length a.out.now) (sym c.has_room.ensures ∙ c.if-has_room.true) in
    let k = add-sub_cancel_left a.at a.n in
    put_part (omega arith) h k (little_length a.n a.v)
    (c.fill_le.ensures ∙ ap (λ (i : ℕ). little i a.v) (mid_len a.at (a.at + a.n) a.out.now h ∙ k))
