-- Walking over things that stand one after the other in a text: each is recognised by a test, has a length, and changes what is known.
-- Assumes nothing.
use Rattle.std.specs.Prelude.{ℕ, zero, suc, ◌+◌, Bool, cond, List, [], ◌∷◌, length, drop}
use Rattle.lang.specs.Parts.{flat}

-- what is left, and what is known
pub record Walked (S : Type 0) : Type 0 where
  pub rest : List ℕ
  pub known : S

abbrev pub walked : {S : Type 0} → List ℕ → S → Walked S
walked s a = record { rest = s; known = a }

module _ {S : Type 0} (here : List ℕ → Bool) (size : List ℕ → ℕ) (step : S → List ℕ → S) where
  -- at most n things
  unfoldable pub walk_in : ℕ → List ℕ → S → Walked S
  walk_in zero s a = walked s a
  walk_in (suc n) s a = let more = walk_in n (drop (size s) s) (step a s) in cond (here s) more (walked s a)

  -- each has a byte or more, so there are no more of them than bytes
  abbrev pub walk : List ℕ → S → Walked S
  walk s a = walk_in (length s) s a

-- what is known after all of a list, of which each may know how many bytes stand behind it, n of them behind the last
abbrev pub folded : {S X : Type 0} → (X → List ℕ) → (S → X → ℕ → S) → S → List X → ℕ → S
folded text f a [] n = a
folded text f a (x ∷ xs) n = folded text f (f a x (length (flat text xs) + n)) xs n
