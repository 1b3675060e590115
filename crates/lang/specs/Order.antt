-- Lists in order, and lists with the same members. Assumes nothing.
use Rattle.std.specs.Prelude.{ℕ, Bool, true, false, ◌&&◌, ◌||◌, List, [], ◌∷◌, ltb, eqb}

-- the same members in another order
pub data Perm {A : Type 0} : List A → List A → Type 0 where
  same : {l : List A} → Perm l l
  swap : {a b : A} {l : List A} → Perm (a ∷ b ∷ l) (b ∷ a ∷ l)
  keep : {a : A} {l m : List A} → Perm l m → Perm (a ∷ l) (a ∷ m)
  then : {l m n : List A} → Perm l m → Perm m n → Perm l n

-- a stands before the first of l, if there is one
abbrev pub leads : {A : Type 0} → (A → A → Bool) → A → List A → Bool
leads before a [] = true
leads before a (b ∷ l) = before a b

-- each stands before the next
abbrev pub rising : {A : Type 0} → (A → A → Bool) → List A → Bool
rising before [] = true
rising before (a ∷ l) = leads before a l && rising before l

-- a list with a put in front of the first that it stands before
module _ {A : Type 0} (before : A → A → Bool) where
  abbrev pub insert : A → List A → List A
  insert a [] = a ∷ []
  insert a (b ∷ l) = elim (before a b) [ true ↦ a ∷ b ∷ l | false ↦ b ∷ insert a l ]

-- number by number, a prefix before the longer
abbrev pub lex_le : List ℕ → List ℕ → Bool
lex_le [] t = true
lex_le (a ∷ s) [] = false
lex_le (a ∷ s) (b ∷ t) = ltb a b || (eqb a b && lex_le s t)

-- the members stand in the relation, one by one
pub data Each {A B : Type 0} (R : A → B → Type 0) : List A → List B → Type 0 where
  none : Each R [] []
  next : {a : A} {b : B} {l : List A} {m : List B} → R a b → Each R l m → Each R (a ∷ l) (b ∷ m)
