-- The walk to the first line feed. Assumes nothing.
use Prim.Native.Nat.{ℕ, suc, ◌+◌, ◌≤◌}
use mathlib.Core.Path.{◌≡◌, sym}
use mathlib.Core.Bool.{Bool, true, false, cond}
use mathlib.Core.List.{List, [], ◌∷◌}
use native.Mathlib.Omega.{arith}
use native.Mathlib.Numerals.{add-one}
use lib.Dec.{eqb}
use lib.ListN.{length}
use borrow.Author.Tests.{eq-eqb, ne_eqb}
use Rattle.io_parts.specs.Feeds.{before_feed}

pub found : (b : ℕ) (w : List ℕ) → b ≡ 10 → before_feed (b ∷ w) ≡ 0
unfolding before_feed
found b w e = rw (eq-eqb b 10 e)

pub goes : (b : ℕ) (w : List ℕ) → (b ≡ 10 → ⊥) → before_feed (b ∷ w) ≡ before_feed w + 1
unfolding before_feed
goes b w n = rw (ne_eqb b 10 n) (sym (add-one (before_feed w)))

pub inside : (l : List ℕ) → before_feed l ≤ length l
unfolding before_feed
inside [] = omega arith
inside (b ∷ w) = by (eqb b 10) (inside w)
  where
    by : (t : Bool) → before_feed w ≤ length w → cond t 0 (suc (before_feed w)) ≤ suc (length w)
    by true h = omega arith
    by false h = omega arith
