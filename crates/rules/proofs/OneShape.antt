-- What the shape of a line is has one answer: a line that has a shape has no place where it fails, and one that has none has one.
-- Assumes nothing.
use Prim.Native.Nat.{ℕ}
use mathlib.Core.Path.{◌≡◌, refl}
use mathlib.Core.List.{List}
use native.Mathlib.Omega.{arith}
use Rattle.lang.proofs.OneStray.{begins_whole, stray_not_begun, stray_one}
use Rattle.rules.specs.Editions.{LineEdition}
use Rattle.rules.specs.Lines.{Shape, Misshapen, stray, short, Judged, fine, misshapen}

pub misshapen_no_shape : {l : LineEdition} {line : List ℕ} {number place : ℕ} → Misshapen l line number place → Shape l line → ⊥
misshapen_no_shape {l} {line} (stray k s) x = stray_not_begun (Shape l) s (begins_whole (Shape l) line x)
misshapen_no_shape (short b n) x = n x

pub misshapen_one : {l : LineEdition} {line : List ℕ} {m n j k : ℕ} → Misshapen l line m j → Misshapen l line n k → (m ≡ n) × (j ≡ k)
misshapen_one {l} (stray j s) (stray k r) = (refl, stray_one (Shape l) s r)
misshapen_one {l} (stray j s) (short b n) = absurd (stray_not_begun (Shape l) s b)
misshapen_one {l} (short b n) (stray k r) = absurd (stray_not_begun (Shape l) r b)
misshapen_one (short b n) (short c m) = (refl, refl)

pub judged_one : {l : LineEdition} {line : List ℕ} {m n j k : ℕ} → Judged l line m j → Judged l line n k → (m ≡ n) × (j ≡ k)
judged_one (fine x) (fine y) = (refl, refl)
judged_one (fine x) (misshapen y) = absurd (misshapen_no_shape y x)
judged_one (misshapen x) (fine y) = absurd (misshapen_no_shape x y)
judged_one (misshapen x) (misshapen y) = misshapen_one x y

-- ---- by its number

pub judged_shape : {l : LineEdition} {line : List ℕ} {n p : ℕ} → Judged l line n p → n ≡ 0 → Shape l line
judged_shape (fine x) e = x
judged_shape (misshapen (stray p x)) e = absurd (omega arith)
judged_shape (misshapen (short x y)) e = absurd (omega arith)

pub judged_misshapen : {l : LineEdition} {line : List ℕ} {n p : ℕ} → Judged l line n p → (n ≡ 0 → ⊥) → Misshapen l line n p
judged_misshapen (fine x) h = absurd (h refl)
judged_misshapen (misshapen x) h = x
