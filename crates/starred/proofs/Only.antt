-- A question that has one answer has the answers of a kind and no others, where each answer of that kind is one to it. Assumes nothing.
use Prim.Native.Nat.{ℕ, ◌≤◌}
use mathlib.Core.Path.{◌≡◌, subst}
use mathlib.Core.List.{List}
use mathlib.Core.Logic.{◌↔◌}
use native.Mathlib.Omega.{arith}
use native.Mathlib.Decide.{dec_le}
use lib.ListN.{length}
use Rattle.rules.specs.Answers.{Answer, Delivers, no_room, done}

pub only : (P Q : Answer → Type 0) → ((a b : Answer) → P a → P b → a ≡ b) → ((a : Answer) → Q a → P a)
    → (a : Answer) → Q a → (b : Answer) → P b ↔ Q b
only P Q one to a q b = (λ p. subst Q (one a b (to a q) p) q, to b)

-- a result is delivered somehow
pub some_delivery : (room : ℕ) (result : List ℕ) → (a : Answer) × Delivers room result a
some_delivery room result = by (dec_le (length result) room)
  where
    by : Dec (length result ≤ room) → (a : Answer) × Delivers room result a
    by (yes h) = (_, done h)
    by (no h) = (_, no_room (omega arith))
