-- Two answers that meet a contract of this crate are equal. Assumes nothing.
use mathlib.Core.Path.{◌≡◌, refl, ap}
use mathlib.Core.List.{List}
use Prim.Native.Nat.{ℕ}
use native.Mathlib.Omega.{arith}
use Rattle.rules.specs.Editions.{LineEdition}
use Rattle.rules.proofs.OneShape.{judged_one}
use Rattle.scan_line.specs.declared.Verdict.{Verdict}
use Rattle.scan_line.specs.declared.Verdict.TheVariants.{Fine, Short, Stray}
use Rattle.scan_line.specs.Verdicts.{JudgedBy}

-- a verdict is fixed by its number and its place
pub judged_by_one : {l : LineEdition} (line : List ℕ) (v w : Verdict) → JudgedBy l line v → JudgedBy l line w → v ≡ w
judged_by_one line Fine Fine x y = refl
judged_by_one line Fine Short x y = absurd (omega (arith, (judged_one x y).0))
judged_by_one line Fine (Stray k) x y = absurd (omega (arith, (judged_one x y).0))
judged_by_one line Short Fine x y = absurd (omega (arith, (judged_one x y).0))
judged_by_one line Short Short x y = refl
judged_by_one line Short (Stray k) x y = absurd (omega (arith, (judged_one x y).0))
judged_by_one line (Stray j) Fine x y = absurd (omega (arith, (judged_one x y).0))
judged_by_one line (Stray j) Short x y = absurd (omega (arith, (judged_one x y).0))
judged_by_one line (Stray j) (Stray k) x y = ap Stray (judged_one x y).1
