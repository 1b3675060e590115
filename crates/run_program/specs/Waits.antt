-- An answer that waits to be written. Assumes nothing.
use Rattle.std.specs.Prelude.{ℕ, ◌≡◌, List, length}
use Rattle.put_bytes.specs.Puts.{Put}
use Rattle.io_lines.specs.declared.Stream.{Stream}
use Rattle.io_lines.specs.Streams.{waiting_of, room_of, Roomed}

-- output d is e, and s is r: a text, with room for `most` bytes, waits behind what waited, or alone where that was written; where it
-- could not be written the stream is stopped
pub record Waits (most : ℕ) (text : List ℕ) (s : Stream) (d e : List ℕ) (r : Stream) : Type 0 where
  pub end : ℕ
  pub put : Put d (room_of (length d) s.waiting most) text e end
  pub room : Stream
  pub roomed : Roomed (length d) most s room
  pub waits : r ≡ waiting_of room end
