-- What a read brings, and what stands in the buffer then. Assumes nothing.
use Rattle.std.specs.Prelude.{ℕ, ◌-◌, ◌/◌, ◌≤◌, ◌≡◌, List, ◌++◌, ltb, None, Result, Ok, Err, length, take}
use Rattle.io_lines.specs.declared.Stream.{Stream}
use Rattle.io_lines.specs.declared.Failure.{Failure}
use Rattle.io_lines.specs.declared.Failure.TheVariants.{Reading}
use Rattle.io_lines.specs.Streams.{stopped_by, sum_of, left}

-- the stream after a read behind the bytes that were held: at its end where nothing came, and stopped where it was refused
abbrev pub read_on : {E : Type 0} → Stream → ℕ → Result ℕ E → Stream
read_on s held (Ok n) =
    record {
      found = None;
      next = 0;
      filled = sum_of held n;
      ended = ltb n 1;
      waiting = 0;
      failed = s.failed;
    }
read_on s held (Err e) = stopped_by Reading

-- buffer d is e after a read behind its first `held` bytes, which are as they were
pub record Behind {E : Type 0} (d : List ℕ) (held : ℕ) (e : List ℕ) (r : Result ℕ E) : Type 0 where
  pub same : length e ≡ length d
  pub before : take held e ≡ take held d
  pub inside : (n : ℕ) → r ≡ Ok n → n ≤ length d - held

-- half of a buffer: so many bytes of a line that goes on are kept
abbrev pub half : List ℕ → ℕ
half buf = length buf / 2

-- buffer d and stream s are e and r: what came stands behind what was left, of which half a buffer is kept at most; or s was stopped
pub data Refilled (d : List ℕ) (s : Stream) (e : List ℕ) (r : Stream) : Type 0 where
  more : (came : List ℕ)
      → length e ≡ length d
      → left e r ≡ take (half d) (left d s) ++ came
      → r.ended ≡ ltb (length came) 1
      → r.failed ≡ s.failed
      → r.waiting ≡ 0
      → Refilled d s e r
  stops : length e ≡ length d → (f : Failure) → r ≡ stopped_by f → Refilled d s e r
