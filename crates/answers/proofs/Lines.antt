-- A line put over an output and zeros behind it, and the answers that a line gets. Assumes nothing.
use Prim.Native.Nat.{ℕ, ◌+◌, ◌<◌, ◌≤◌}
use mathlib.Core.Path.{◌≡◌, ap, ◌∙◌}
use mathlib.Core.List.{List}
use native.Mathlib.Omega.{arith}
use native.Mathlib.Decide.{dec_le}
use lib.ListN.{length, take, drop, replicate}
use lib.Seq.{take-append_seam, sets-eq}
use borrow.Author.Tests.{lt-ltb, le-ltb}
use Rattle.std.specs.Prelude.{Ok}
use Rattle.rules.specs.Limits.{max_line}
use Rattle.faults.specs.declared.Why.TheVariants.{LineTooLong, OutputTooShort}
use Rattle.put_bytes.specs.Puts.{Put, cleared}
use Rattle.put_bytes.proofs.Putting.{put_length}
use Rattle.answers.specs.Delivered.{Answer, answered, refused_of, line_over, closed_over}

-- ---- the code's answers are those of the model

module _ (e : List ℕ) (n : ℕ) where
  pub line_long : {out : List ℕ} {r : Answer} → max_line < n → out ≡ replicate (length e) 0 → r ≡ refused_of LineTooLong max_line → answered r out ≡ closed_over e n
  unfolding closed_over
  line_long h z q = rw (lt-ltb max_line n h, q, z)

  module _ (short : n ≤ max_line) where
    pub line_no_room : {out : List ℕ} {r : Answer} → length e < n → out ≡ replicate (length e) 0 → r ≡ refused_of OutputTooShort n → answered r out ≡ closed_over e n
    unfolding closed_over
    line_no_room h z q = rw (le-ltb max_line n short, lt-ltb (length e) n h, q, z)

    pub line_fits : {out : List ℕ} → n ≤ length e → out ≡ cleared e n → answered (Ok n) out ≡ closed_over e n
    unfolding closed_over
    line_fits h z = rw (le-ltb max_line n short, le-ltb (length e) n h, z)

-- ---- a line that was put

line_first : {d line e : List ℕ} {n : ℕ} → Put d 0 line e n → length line ≤ length d → take (length line) e ≡ line
line_first {d} {line} p h =
    ap (take (length line)) (p.made ∙ sets-eq line d 0 (omega arith)) ∙ take-append_seam line (drop (0 + length line) d)

-- what an output is closed with is the answer for the line that was put into it
pub line_closed : {d line e : List ℕ} {n : ℕ} → Put d 0 line e n → closed_over e n ≡ line_over line (length d)
unfolding closed_over line_over
line_closed {d} {line} {e} {n} p = by (dec_le n max_line)
  where
    same : length e ≡ length d
    same = put_length p

    fits : n ≤ max_line → Dec (length line ≤ length d) → closed_over e n ≡ line_over line (length d)
    fits h (yes g) =
        let l : n ≡ length line = omega (arith, p.next) in
        rw (l, same, le-ltb max_line (length line) (omega arith), le-ltb (length d) (length line) g, line_first p g)
    fits h (no g) =
        let l : n ≡ length line = omega (arith, p.next) in
        rw (l, same, le-ltb max_line (length line) (omega arith), lt-ltb (length d) (length line) (omega arith))

    by : Dec (n ≤ max_line) → closed_over e n ≡ line_over line (length d)
    by (yes h) = fits h (dec_le (length line) (length d))
    by (no h) = rw (lt-ltb max_line n (omega arith), lt-ltb max_line (length line) (omega (arith, p.next)), same)
