-- Limits that stand at places of a text. Assumes nothing.
use Rattle.std.specs.Prelude.{ℕ, ◌+◌, ◌<◌, ◌≤◌, ◌≡◌, Bool, List, [], ◌∷◌, ◌++◌, ◌⊎◌, T, length}

-- a limit at a place: the number of its refusal, and whether it is broken
pub record Mark : Type 0 where
  pub place : ℕ
  pub number : ℕ
  pub broken : Bool

pub data In {A : Type 0} (a : A) : List A → Type 0 where
  here : {l : List A} → In a (a ∷ l)
  later : {b : A} {l : List A} → In a l → In a (b ∷ l)

-- no limit is broken
abbrev pub Kept : List Mark → Type 0
Kept ms = (n : Mark) → In n ms → T n.broken → ⊥

-- the broken limit that is reported: the lowest place wins, the higher number on a tie
pub record Wins (ms : List Mark) (m : Mark) : Type 0 where
  pub is_in : In m ms
  pub broken : T m.broken
  pub least : (n : Mark) → In n ms → T n.broken → (m.place < n.place) ⊎ ((m.place ≡ n.place) × (n.number ≤ m.number))

-- a part of a text, with the limits in it where it begins at a place
pub record Part : Type 0 where
  pub text : List ℕ
  pub marks : ℕ → List Mark

-- parts one after the other, from a place on
abbrev pub marks_of : ℕ → List Part → List Mark
marks_of at [] = []
marks_of at (p ∷ ps) = p.marks at ++ marks_of (at + length p.text) ps
