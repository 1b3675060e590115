-- A text that is put where there is room for it waits. Assumes nothing.
use Prim.Native.Nat.{ℕ}
use mathlib.Core.Path.{◌≡◌, subst}
use mathlib.Core.List.{List}
use lib.ListN.{length}
use Rattle.put_bytes.specs.Puts.{Put}
use Rattle.io_lines.specs.declared.Stream.{Stream}
use Rattle.io_lines.specs.Streams.{waiting_of, Roomed}
use Rattle.io_lines.proofs.Rooms.{room_at}
use Rattle.run_program.specs.Waits.{Waits}

pub waits_by : {most : ℕ} {text d e : List ℕ} {end : ℕ} {s v r : Stream} → Roomed (length d) most s v → Put d v.waiting text e end
    → r ≡ waiting_of v end → Waits most text s d e r
waits_by {text = text} {d} {e} {end} {v = v} roomed p y =
    record {
      end = end;
      put = subst (λ (n : ℕ). Put d n text e end) (room_at roomed) p;
      room = v;
      roomed = roomed;
      waits = y;
    }
