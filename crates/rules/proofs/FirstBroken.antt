-- Document 01, "Numbers of refusal", 4 and 5: the broken limit of the lowest place is reported, 5 before 4 on a tie. It is the first
-- broken one in the order of the line's limits, so a reader may stop at it. Assumes nothing.
use Prim.Native.Nat.{◌≤◌}
use mathlib.Core.Path.{◌≡◌}
use Rattle.lang.specs.Parts.{silent, written}
use Rattle.lang.specs.Mark.{Mark, Kept, Wins}
use Rattle.lang.proofs.FirstBroken.{first_broken, silent_keeps, keeps_silent, written_wins, wins_written}
use Rattle.rules.specs.Lines.{Spelling}
use Rattle.rules.specs.Limits.{line_marks}
use Rattle.rules.proofs.Rises.{line_rises}

pub first_wins : (s : Spelling) (m : Mark) → first_broken (line_marks s) ≡ written m → Wins (line_marks s) m
first_wins s m e = written_wins (line_marks s) (line_rises s).order m e

pub first_keeps : (s : Spelling) → first_broken (line_marks s) ≡ silent → Kept (line_marks s)
first_keeps s e = silent_keeps (line_marks s) e

-- ---- and the other way round

pub wins_first : (s : Spelling) (m : Mark) → Wins (line_marks s) m
    → (n : Mark) × (first_broken (line_marks s) ≡ written n) × (n.place ≡ m.place) × (n.number ≡ m.number)
wins_first s m w = wins_written (line_marks s) (line_rises s).order m w

pub keeps_first : (s : Spelling) → Kept (line_marks s) → first_broken (line_marks s) ≡ silent
keeps_first s k = keeps_silent (line_marks s) k

-- ---- its number

pub wins_number : (s : Spelling) (m : Mark) → Wins (line_marks s) m → 4 ≤ m.number
wins_number s m w = ((line_rises s).within m w.is_in w.broken).least
