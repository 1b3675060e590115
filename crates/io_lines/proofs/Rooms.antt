-- Where an answer goes: behind those that wait, at the front once they are written. Assumes nothing.
use Prim.Native.Nat.{ℕ}
use mathlib.Core.Path.{◌≡◌, sym, ap, ◌∙◌}
use mathlib.Core.Bool.{cond}
use Rattle.io_lines.specs.declared.Stream.{Stream}
use Rattle.io_lines.specs.Streams.{room_of, Roomed, goes_on, stops}

-- where the answer goes, whatever became of the stream
pub room_at : {all need : ℕ} {s r : Stream} → Roomed all need s r → r.waiting ≡ room_of all s.waiting need
room_at (goes_on e) = ap (λ (x : Stream). x.waiting) e
room_at {s = s} (stops f e) = ap (λ (x : Stream). x.waiting) e ∙ sym (ap (λ b. cond b s.waiting 0) f)
