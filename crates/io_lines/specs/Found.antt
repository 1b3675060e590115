-- Which lines are found, up to what the system hands over. Assumes nothing.
use Rattle.std.specs.Prelude.{ℕ, ◌≤◌, ◌<◌, ◌≡◌, Bool, true, false, cond, List, [], ◌∷◌, ◌++◌, ltb, length, take}
use Rattle.io_parts.specs.Feeds.{before_feed}
use Rattle.io_lines.specs.declared.Stream.{Stream}
use Rattle.io_lines.specs.declared.Failure.{Failure}
use Rattle.put_bytes.specs.Puts.{max_place}
use Rattle.io_lines.specs.Streams.{stopped_by, is_found, is_fed, left, line_in}
use Rattle.io_lines.specs.Refills.{half}

-- no byte of it is a line feed
pub record Unfed (l : List ℕ) : Type 0 where
  pub is : before_feed l ≡ length l

-- a line as it came, and as it is kept: all of it; or, of one longer than half a buffer, so many bytes of its beginning, and no fewer in all
pub data StandsFor (half : ℕ) (whole kept : List ℕ) : Type 0 where
  all : kept ≡ whole → StandsFor half whole kept
  cut : half < length whole → half ≤ length kept → take half kept ≡ take half whole → StandsFor half whole kept

-- a line without line feed, and as it is kept
pub record Line (half : ℕ) (whole kept : List ℕ) : Type 0 where
  pub unfed : Unfed whole
  pub stands : StandsFor half whole kept

-- how the search for a line ended: what was left of buffer d, and what came meanwhile, are
pub data Ending (most : ℕ) (d : List ℕ) (s : Stream) (came : List ℕ) (e : List ℕ) (r : Stream) : Type 0 where
  -- the line that is found, its line feed and what is left now
  line : (whole : List ℕ)
      → left d s ++ came ≡ whole ++ (10 ∷ left e r)
      → Line (half d) whole (line_in e r)
      → is_found r ≡ true
      → is_fed r ≡ true
      → r.ended ≡ s.ended
      → r.failed ≡ s.failed
      → Ending most d s came e r
  -- the last line, which has no line feed, or nothing: the input is over
  end : Line (half d) (left d s ++ came) (line_in e r)
      → left e r ≡ []
      → is_found r ≡ ltb 0 (length (line_in e r))
      → is_fed r ≡ false
      → r.ended ≡ true
      → r.failed ≡ s.failed
      → Ending most d s came e r
  -- of no matter, as the system refused to read or to write
  stops : s.ended ≡ false → (f : Failure) → r ≡ stopped_by f → Ending most d s came e r
  -- a line that goes on, of which `most` bytes or more came
  goes_on : Line (half d) (left d s ++ came) (left e r)
      → is_found r ≡ false
      → r.ended ≡ false
      → s.ended ≡ false
      → r.failed ≡ s.failed
      → most ≤ length came
      → Ending most d s came e r

-- buffer d and stream s are e and r when a line was looked for: what the system handed over meanwhile; whether it was asked, before
-- which what waits is written; and how the search ended
pub record Search (most : ℕ) (d : List ℕ) (s : Stream) (e : List ℕ) (r : Stream) : Type 0 where
  pub came : List ℕ
  pub asked : Bool
  pub ending : Ending most d s came e r
  pub same : length e ≡ length d
  pub waits : r.waiting ≡ cond asked 0 s.waiting
  pub unasked : asked ≡ false → came ≡ []
  pub still : asked ≡ false → r.ended ≡ s.ended
  pub over : s.ended ≡ true → asked ≡ false

-- a line may go on for ever, and a loop may not: it is given up after 2 ^ 64 - 1 bytes at least
abbrev pub Next : List ℕ → Stream → List ℕ → Stream → Type 0
Next = Search max_place

-- a line feed, or none
abbrev pub feed_of : Bool → List ℕ
feed_of fed = cond fed (10 ∷ []) []

-- how the search for a part ended: what was left and what came are
pub data PartEnding (d : List ℕ) (s : Stream) (came : List ℕ) (e : List ℕ) (r : Stream) : Type 0 where
  -- the part that is found, its line feed if it has one, and what is left now
  part : left d s ++ came ≡ line_in e r ++ (feed_of (is_fed r) ++ left e r)
      → Unfed (line_in e r)
      → is_found r ≡ true
      → r.ended ≡ s.ended
      → r.failed ≡ s.failed
      → PartEnding d s came e r
  -- nothing: the input is over
  end : left d s ++ came ≡ []
      → left e r ≡ []
      → is_found r ≡ false
      → r.ended ≡ true
      → r.failed ≡ s.failed
      → PartEnding d s came e r
  stops : s.ended ≡ false → (f : Failure) → r ≡ stopped_by f → PartEnding d s came e r

-- buffer d and stream s are e and r when a part was looked for
pub record NextPart (d : List ℕ) (s : Stream) (e : List ℕ) (r : Stream) : Type 0 where
  pub came : List ℕ
  pub asked : Bool
  pub ending : PartEnding d s came e r
  pub same : length e ≡ length d
  pub waits : r.waiting ≡ cond asked 0 s.waiting
  pub unasked : asked ≡ false → came ≡ []
  pub still : asked ≡ false → r.ended ≡ s.ended
  pub over : s.ended ≡ true → asked ≡ false
