-- How far the lines of an input were taken, and where the next one stands in what was read. Assumes nothing.
use Rattle.std.specs.Prelude.{ℕ, ◌+◌, ◌-◌, min, ◌≡◌, Bool, true, false, cond, List, [], Option, None, Some, is_some, ltb, leb, length, take, drop}
use Rattle.put_bytes.specs.Puts.{max_place}
use Rattle.io_parts.specs.Feeds.{before_feed}
use Rattle.io_lines.specs.declared.Span.{Span}
use Rattle.io_lines.specs.declared.Stream.{Stream}
use Rattle.io_lines.specs.declared.Failure.{Failure}
use Rattle.io_lines.specs.declared.Failure.TheVariants.{Writing}

-- before the first line
abbrev pub begun : Stream
begun =
    record {
      found = None;
      next = 0;
      filled = 0;
      ended = false;
      waiting = 0;
      failed = None;
    }

-- where the system refused something: at an end, with nothing left
abbrev pub stopped_by : Failure → Stream
stopped_by f =
    record {
      found = None;
      next = 0;
      filled = 0;
      ended = true;
      waiting = 0;
      failed = Some f;
    }

-- with so many bytes of answers waiting
abbrev pub waiting_of : Stream → ℕ → Stream
waiting_of s n =
    record {
      found = s.found;
      next = s.next;
      filled = s.filled;
      ended = s.ended;
      waiting = n;
      failed = s.failed;
    }

-- with a line found, or none, behind which the next begins
abbrev pub line_of : Stream → Option Span → ℕ → Stream
line_of s found next =
    record {
      found = found;
      next = next;
      filled = s.filled;
      ended = s.ended;
      waiting = s.waiting;
      failed = s.failed;
    }

-- whether there is a line, or a part of one
abbrev pub is_found : Stream → Bool
is_found s = is_some s.found

abbrev pub fed_of : Option Span → Bool
fed_of None = false
fed_of (Some w) = w.fed

-- whether a line feed ended it
abbrev pub is_fed : Stream → Bool
is_fed s = fed_of s.found

-- reading on would change nothing
abbrev pub settled : Stream → Bool
settled s = cond (is_found s) true s.ended

abbrev pub sum_of : ℕ → ℕ → ℕ
sum_of a b = min (a + b) max_place

-- what was read and not taken yet
abbrev pub left : List ℕ → Stream → List ℕ
left buf s = take (s.filled - s.next) (drop s.next buf)

-- the bytes that a line, or a part of one, has in a buffer
abbrev pub bytes_in : List ℕ → Option Span → List ℕ
bytes_in buf None = []
bytes_in buf (Some w) = take w.len (drop w.from buf)

-- the line that was found, or the part of one
abbrev pub line_in : List ℕ → Stream → List ℕ
line_in buf s = bytes_in buf s.found

-- so many bytes of what is left, and whether a line feed ends them
abbrev pub span_of : Stream → ℕ → Bool → Span
span_of s len fed = record { from = s.next; len = len; fed = fed }

-- what is left up to its first line feed, or all of it
abbrev pub part_of : Stream → List ℕ → Stream
part_of s all =
    cond (ltb (before_feed all) (length all)) (line_of s (Some (span_of s (before_feed all) true)) (s.next + before_feed all + 1))
    (line_of s (cond (ltb 0 (before_feed all)) (Some (span_of s (before_feed all) false)) None) s.filled)

-- a part is a line where a line feed ended it, or where it is the last of all; else there is none yet
abbrev pub line_by : Stream → Stream → Stream
line_by s part = cond (is_fed part) part (cond s.ended part (line_of s None s.next))

-- the line that ends in what is left
abbrev pub looked_at : Stream → List ℕ → Stream
looked_at s all = line_by s (part_of s all)

-- whether an answer of so many bytes fits behind those that wait, in an output of `all` bytes
abbrev pub fits_in : ℕ → ℕ → ℕ → Bool
fits_in all waiting need = cond (ltb waiting all) (leb need (all - waiting)) false

-- where it goes: behind them, or to the front when they were written
abbrev pub room_of : ℕ → ℕ → ℕ → ℕ
room_of all waiting need = cond (fits_in all waiting need) waiting 0

-- s is r, with room for an answer; or it stops, where what waits had to be written and could not
pub data Roomed (all need : ℕ) (s r : Stream) : Type 0 where
  goes_on : r ≡ waiting_of s (room_of all s.waiting need) → Roomed all need s r
  stops : fits_in all s.waiting need ≡ false → r ≡ stopped_by Writing → Roomed all need s r
