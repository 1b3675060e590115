-- A match over numbers that no arm from 1 to m takes, as its last arm tells it: the last of them outermost. Assumes nothing.
use Prim.Native.Nat.{ℕ, zero, suc, ◌≤◌}
use mathlib.Core.Path.{◌≡◌}
use native.Mathlib.Omega.{arith}
use native.Mathlib.Decide.{dec_le}

abbrev pub NoneTo : ℕ → ℕ → Type 0
NoneTo zero n = Unit {0}
NoneTo (suc m) n = NoneTo m n × (n ≡ suc m → ⊥)

pub none_to : (m n : ℕ) → NoneTo m n → 1 ≤ n → n ≤ m → ⊥
none_to zero n h a b = omega arith
none_to (suc m) n h a b = by (dec_le n m) (λ g. none_to m n h.0 a g)
  where
    by : Dec (n ≤ m) → (n ≤ m → ⊥) → ⊥
    by (yes g) f = f g
    by (no g) f = h.1 (omega arith)
