-- `io_answers::put_refusal` meets its contract. Assumes nothing.
use Prim.Native.Nat.{ℕ}
use mathlib.Core.Path.{ap}
use mathlib.Core.List.{[], ◌∷◌, ◌++◌}
use Rattle.rules.specs.Numbers.{digits}
use Rattle.io_answers.specs.Tells.{field}
use Rattle.put_bytes.proofs.Putting.{put_then, put_as}
use Rattle.io_answers.proofs.put_refusal.Goals as goal

pub returns : goal.returns
returns c =
    put_as (put_then c.put8-p.ensures (put_then c.put_field-q.ensures c.put_number.ensures))
    (ap (λ (n : ℕ). (33 ∷ []) ++ (field n ++ digits c.args.r.place)) c.number.ensures)
