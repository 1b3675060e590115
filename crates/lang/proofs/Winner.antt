-- Of the broken limits one is reported: its place and number are fixed. Assumes nothing.
use Prim.Native.Nat.{◌<◌, ◌≤◌}
use mathlib.Core.Path.{◌≡◌}
use mathlib.Core.List.{List}
use mathlib.Core.Logic.{◌⊎◌, inl, inr}
use native.Mathlib.Omega.{arith}
use Rattle.lang.specs.Mark.{Mark, Kept, Wins}

module _ {ms : List Mark} where
  pub wins_one : {m n : Mark} → Wins ms m → Wins ms n → (m.place ≡ n.place) × (m.number ≡ n.number)
  wins_one {m} {n} x y = by (x.least n y.is_in y.broken) (y.least m x.is_in x.broken)
    where
      by : (m.place < n.place) ⊎ ((m.place ≡ n.place) × (n.number ≤ m.number))
          → (n.place < m.place) ⊎ ((n.place ≡ m.place) × (m.number ≤ n.number))
          → (m.place ≡ n.place) × (m.number ≡ n.number)
      by (inl h) (inl g) = absurd (omega arith)
      by (inl h) (inr g) = absurd (omega arith)
      by (inr h) (inl g) = absurd (omega arith)
      by (inr h) (inr g) = omega arith

  pub wins_not_kept : {m : Mark} → Wins ms m → Kept ms → ⊥
  wins_not_kept {m} x k = k m x.is_in x.broken
