-- The code's answers to a line of any bytes are those of the model. Assumes nothing.
use Prim.Native.Nat.{ℕ, ◌<◌, ◌≤◌}
use mathlib.Core.Path.{◌≡◌}
use mathlib.Core.List.{List}
use lib.ListN.{length, replicate}
use borrow.Author.Tests.{lt-ltb, le-ltb}
use Rattle.rules.specs.Limits.{max_line}
use Rattle.rules.specs.Answers as rules
use Rattle.scan_line.specs.declared.Verdict.{Verdict}
use Rattle.scan_line.specs.declared.Verdict.TheVariants.{Fine, Short, Stray}
use Rattle.faults.specs.declared.Why.TheVariants.{LineTooLong, StrayByte, Unfinished}
use Rattle.answers.specs.Delivered.{Answer, answered, refused_of}
use Rattle.respell_line.specs.Relabelled.{relabelled_over}
use Rattle.lines.specs.Relabels.{relabelled_of}

module _ (line : List ℕ) (room : ℕ) where
  pub long_of : (v : Verdict) {out : List ℕ} {r : Answer} → max_line < length line → out ≡ replicate room 0 → r ≡ refused_of LineTooLong max_line
      → answered r out ≡ relabelled_of v line room
  unfolding relabelled_of
  long_of v h z e = rw (lt-ltb max_line (length line) h, e, z)

  module _ (short : length line ≤ max_line) {v : Verdict} where
    pub fine_of : {b : rules.Answer} → v ≡ Fine → b ≡ relabelled_over line room → b ≡ relabelled_of v line room
    unfolding relabelled_of
    fine_of q e = rw (le-ltb max_line (length line) short, q) e

    pub short_of : {out : List ℕ} {r : Answer} → v ≡ Short → out ≡ replicate room 0 → r ≡ refused_of Unfinished (length line)
        → answered r out ≡ relabelled_of v line room
    unfolding relabelled_of
    short_of q z e = rw (le-ltb max_line (length line) short, q, e, z)

    pub stray_of : {place : ℕ} {out : List ℕ} {r : Answer} → v ≡ Stray place → out ≡ replicate room 0 → r ≡ refused_of StrayByte place
        → answered r out ≡ relabelled_of v line room
    unfolding relabelled_of
    stray_of q z e = rw (le-ltb max_line (length line) short, q, e, z)
