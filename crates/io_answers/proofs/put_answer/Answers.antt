-- `io_answers::put_answer` meets its contract. Assumes nothing.
use Prim.Native.Nat.{ℕ}
use mathlib.Core.List.{[], ◌∷◌, ◌++◌}
use lib.ListN.{take}
use Rattle.io_answers.specs.Tells.{field, shown}
use Rattle.put_bytes.proofs.Putting.{put_then, put_as}
use mathlib.Core.Path.{ap}
use Rattle.io_answers.proofs.put_answer.Goals as goal

pub returns : goal.returns
returns c =
    put_as
    (put_then c.put_field-p.ensures (put_then c.put_field-q.ensures (put_then c.put_field-r.ensures (put_then (put_as c.put_shown-t.ensures (ap shown c.first_of.ensures)) c.put8.ensures))))
    (ap (λ (t : ℕ × ℕ × ℕ). field t.0 ++ (field t.1 ++ (field t.2 ++ (shown (take t.2 c.args.table.now) ++ (10 ∷ []))))) c.numbers-number.ensures)
