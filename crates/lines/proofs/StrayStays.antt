-- A stray byte stays stray where lines are relabelled, as it does where they are read. Assumes nothing.
use Prim.Native.Nat.{ℕ, ◌+◌, ◌≤◌}
use mathlib.Core.Path.{◌≡◌}
use mathlib.Core.List.{List}
use native.Mathlib.Omega.{arith}
use lib.ListN.{length, take}
use Rattle.rules.specs.Editions.{LineEdition}
use Rattle.rules.specs.Limits.{max_line}
use Rattle.rules.specs.Answers.{Answer, refuses, Writes, no_table, old, lettered, long, fits}
use Rattle.rules.proofs.StrayStays.{delivers_not_two, stray_answered}
use Rattle.lines.specs.Relabels.{Relabels, refused, relabelled}
use Rattle.lines.proofs.Back.{relabels_one}

-- 2 is the reader's
writes_not_two : {l : LineEdition} {bytes : List ℕ} {room : ℕ} {a : Answer} → Writes l bytes room a → a.number ≡ 2 → ⊥
writes_not_two (no_table n) e = omega arith
writes_not_two (old t h o) e = omega arith
writes_not_two (lettered t h n) e = omega arith
writes_not_two (long t h i l) e = omega arith
writes_not_two (fits t h i l d) e = delivers_not_two d e

-- there is such an answer
pub stray_answered_relabelled : {l : LineEdition} {line other : List ℕ} {room room' : ℕ} {a : Answer} → Relabels l line room a → a.number ≡ 2 → length other ≤ max_line
    → take (a.place + 1) other ≡ take (a.place + 1) line → Relabels l other room' (refuses room' 2 a.place)
stray_answered_relabelled (refused r h) e small agrees = refused (stray_answered r e small agrees) (λ z. omega arith)
stray_answered_relabelled (relabelled r n w) e small agrees = absurd (writes_not_two w e)

-- and every answer is this one
pub stray_stays_relabelled : {l : LineEdition} {line other : List ℕ} {room room' : ℕ} {a b : Answer} → Relabels l line room a → a.number ≡ 2 → length other ≤ max_line
    → take (a.place + 1) other ≡ take (a.place + 1) line → Relabels l other room' b → b ≡ refuses room' 2 a.place
stray_stays_relabelled {other = other} r e small agrees x = relabels_one other x (stray_answered_relabelled r e small agrees)
