-- Bytes put at a cursor. Assumes nothing.
use Rattle.std.specs.Prelude.{ℕ, ◌+◌, ◌-◌, ◌≤◌, min, ◌≡◌, List, ◌++◌, length, take, replicate}
use Rattle.std.proofs.lemmas.List.Edits.{sets}

-- the largest place that a usize holds: 2 ^ 64 - 1
abbrev pub max_place : ℕ
max_place = 18446744073709551615

-- e is d with l stored from a place on, as far as it fits; r is the place behind it, or the largest where that would not fit
pub record Put (d : List ℕ) (at : ℕ) (l e : List ℕ) (r : ℕ) : Type 0 where
  pub small : length d ≤ max_place
  pub next : r ≡ min (at + length l) max_place
  pub made : e ≡ sets d at l

-- zeros from a place on
abbrev pub cleared : List ℕ → ℕ → List ℕ
cleared d from = take from d ++ replicate (length d - from) 0
