-- What it is to tell which of two texts comes first. Assumes nothing.
use Rattle.std.specs.Prelude.{ℕ, ◌≡◌, Bool, List, ◌∷◌, ◌++◌, map}
use Rattle.lang.specs.Order.{lex_le}
use Rattle.rules.specs.Preferred.{rank}

-- what is compared of a text, and then u
abbrev pub ranks_of : List ℕ → List ℕ → List ℕ
ranks_of l u = map rank l ++ (0 ∷ u)

-- r tells which text comes first, where `same` tells it of what follows two equal texts
pub record TextsBefore (a b : List ℕ) (same r : Bool) : Type 0 where
  pub is : (u v : List ℕ) → same ≡ lex_le u v → r ≡ lex_le (ranks_of a u) (ranks_of b v)
