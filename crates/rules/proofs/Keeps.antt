-- What marks say of which none is broken: each part of a text and each member of a row is kept, a row has no more than its bound.
-- Assumes nothing.
use Prim.Native.Nat.{ℕ, ◌+◌, ◌≤◌, ◌<◌}
use mathlib.Core.List.{List, [], ◌∷◌, ◌++◌}
use native.Mathlib.Omega.{arith}
use native.Mathlib.Decide.{dec_le}
use lib.Dec.{T, ltb, le→leb, lt→ltb}
use lib.ListN.{length}
use Rattle.lang.specs.Mark.{Mark, In, here, later, Kept, Part, marks_of}
use Rattle.rules.specs.Limits.{many_mark, row_marks}

-- ---- marks in general

in_left : {m : Mark} {ms : List Mark} (ns : List Mark) → In m ms → In m (ms ++ ns)
in_left ns here = here
in_left ns (later i) = later (in_left ns i)

in_right : {m : Mark} (ms : List Mark) {ns : List Mark} → In m ns → In m (ms ++ ns)
in_right [] i = i
in_right (x ∷ ms) i = later (in_right ms i)

pub kept_left : (ms ns : List Mark) → Kept (ms ++ ns) → Kept ms
kept_left ms ns k n i t = k n (in_left ns i) t

pub kept_right : (ms ns : List Mark) → Kept (ms ++ ns) → Kept ns
kept_right ms ns k n i t = k n (in_right ms i) t

pub kept_tail : {m : Mark} {ms : List Mark} → Kept (m ∷ ms) → Kept ms
kept_tail k n i t = k n (later i) t

-- each of the parts of a text is kept, at its place
pub kept_part : (at : ℕ) (ps : List Part) → Kept (marks_of at ps) → (p : Part) → In p ps → (q : ℕ) × Kept (p.marks q)
kept_part at [] k r i = elim i [ ]
kept_part at (p ∷ ps) k r here = (at, kept_left (p.marks at) (marks_of (at + length p.text) ps) k)
kept_part at (p ∷ ps) k r (later i) =
    kept_part (at + length p.text) ps (kept_right (p.marks at) (marks_of (at + length p.text) ps) k) r i

-- a number not past its bound
pub not_past : (bound n : ℕ) → (T (ltb bound n) → ⊥) → n ≤ bound
not_past bound n h = by (dec_le n bound)
  where
    by : Dec (n ≤ bound) → n ≤ bound
    by (yes y) = y
    by (no z) = absurd (h (lt→ltb bound n (omega arith)))

-- one that is not too many of a row
pub not_many : (bound i at : ℕ) (ms : List Mark) → Kept (many_mark bound i at ∷ ms) → i < bound
not_many bound i at ms k = by (dec_le bound i)
  where
    by : Dec (bound ≤ i) → i < bound
    by (yes y) = absurd (k (many_mark bound i at) here (le→leb bound i y))
    by (no z) = omega arith

-- ---- rows

module _ {A : Type 0} (text : A → List ℕ) (marks : ℕ → A → ℕ → List Mark) where
  -- each of a row is kept, at its place
  pub row_each : (i : ℕ) (xs : List A) (at : ℕ) → Kept (row_marks text marks i xs at) → (x : A) → In x xs
      → (j : ℕ) × (q : ℕ) × Kept (marks j x q)
  row_each i [] at k y e = elim e [ ]
  row_each i (x ∷ xs) at k y here = (i, at, kept_left (marks i x at) (row_marks text marks (i + 1) xs (at + length (text x))) k)
  row_each i (x ∷ xs) at k y (later e) =
      let m = row_marks text marks (i + 1) xs (at + length (text x)) in
      row_each (i + 1) xs (at + length (text x)) (kept_right (marks i x at) m k) y e

  -- a row whose members count themselves has no more than the bound
  pub row_few : (bound : ℕ) → ((i : ℕ) (x : A) (at : ℕ) → Kept (marks i x at) → i < bound)
      → (i : ℕ) (xs : List A) (at : ℕ) → Kept (row_marks text marks i xs at) → i ≤ bound → i + length xs ≤ bound
  row_few bound h i [] at k le = omega arith
  row_few bound h i (x ∷ xs) at k le =
      let m = row_marks text marks (i + 1) xs (at + length (text x)) in
      let b : i < bound = h i x at (kept_left (marks i x at) m k) in
      let r = row_few bound h (i + 1) xs (at + length (text x)) (kept_right (marks i x at) m k) (omega arith) in
      omega arith
