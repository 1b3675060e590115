-- What is said to the line that was found waits, with its line feed. Assumes nothing.
use Prim.Native.Nat.{ℕ}
use mathlib.Core.Path.{◌≡◌, ap}
use mathlib.Core.List.{List, [], ◌∷◌, ◌++◌}
use lib.ListN.{length}
use Rattle.put_bytes.specs.Puts.{Put}
use Rattle.put_bytes.proofs.Putting.{put_then, put_as}
use Rattle.io_lines.specs.declared.Stream.{Stream}
use Rattle.io_lines.specs.Streams.{waiting_of, Roomed}
use Rattle.run_program.proofs.Waiting.{waits_by}
use Rattle.try_terms.specs.Lines.{answer_to}
use Rattle.try_terms.specs.Answered.{longest_reply, Answered}

pub answered_by : {w line d e f : List ℕ} {at end : ℕ} {s v r : Stream} → Roomed (length d) longest_reply s v → w ≡ line → Put d v.waiting (answer_to w) e at
    → Put e at (10 ∷ []) f end → r ≡ waiting_of v end → Answered line s d f r
answered_by roomed i p q y = waits_by roomed (put_as (put_then p q) (ap (λ (l : List ℕ). answer_to l ++ (10 ∷ [])) i)) y
