-- Where a line feed stands, and what stays of a buffer. Assumes nothing.
use Rattle.std.specs.Prelude.{ℕ, suc, ◌-◌, ◌≤◌, min, ◌≡◌, cond, List, [], ◌∷◌, eqb, length, drop}
use Rattle.std.proofs.Math.Seq.{paste}

-- how many bytes stand before the first line feed
unfoldable pub before_feed : List ℕ → ℕ
before_feed [] = 0
before_feed (b ∷ w) = cond (eqb b 10) 0 (suc (before_feed w))

pub record LineEnd (l : List ℕ) (r : ℕ) : Type 0 where
  pub is : r ≡ before_feed l
  pub inside : r ≤ length l

-- e is d with the r bytes from a place on over its first r: n of them, or as many as there are
pub record Kept (d : List ℕ) (from n : ℕ) (e : List ℕ) (r : ℕ) : Type 0 where
  pub is : r ≡ min (length d - from) n
  pub made : e ≡ paste d 0 (drop from d) r
