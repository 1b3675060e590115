-- An answer whose output stands behind the first bytes of a longer one. Assumes nothing.
use Rattle.std.specs.Prelude.{ℕ, ◌+◌, min, ◌≡◌, List, length, take, drop}
use Rattle.rules.specs.Answers as rules
use Rattle.put_bytes.specs.Puts.{max_place}
use Rattle.answers.specs.Delivered.{Answer, answered}

-- a sum as far as a usize holds it
unfoldable pub capped : ℕ → ℕ → ℕ
capped a b = min (a + b) max_place

-- from place `at` on e is the output of answer b, and before it e is d
pub record Behind (at : ℕ) (d e : List ℕ) (b : rules.Answer) (r : Answer) : Type 0 where
  pub same : length e ≡ length d
  pub kept : take at e ≡ take at d
  pub is : answered r (drop at e) ≡ b
