-- What texts are made of: parts that may be left out, parts in a row, bytes that pass a test, words of a list. Assumes nothing.
use Rattle.std.specs.Prelude.{ℕ, Bool, true, false, ◌&&◌, List, [], ◌∷◌, ◌++◌, map, T, ltb, length, get_or}
use Rattle.lang.specs.Re.{Rng, in_c}

-- left out, or there
pub data Opt (A : Type 0) : Type 0 where
  silent : Opt A
  written : A → Opt A

abbrev pub opt_text : {A : Type 0} → (A → List ℕ) → Opt A → List ℕ
opt_text f silent = []
opt_text f (written a) = f a

-- what is there, changed
abbrev pub opt_map : {A B : Type 0} → (A → B) → Opt A → Opt B
opt_map f silent = silent
opt_map f (written a) = written (f a)

-- one or more
pub record Some (A : Type 0) : Type 0 where
  pub first : A
  pub more : List A

abbrev pub items : {A : Type 0} → Some A → List A
items s = s.first ∷ s.more

abbrev pub some_map : {A B : Type 0} → (A → B) → Some A → Some B
some_map f s = record { first = f s.first; more = map f s.more }

-- one after the other
abbrev pub flat : {A B : Type 0} → (A → List B) → List A → List B
flat f [] = []
flat f (x ∷ xs) = f x ++ flat f xs

-- each byte is in the class
abbrev pub all : List Rng → List ℕ → Bool
all c [] = true
all c (b ∷ w) = in_c c b && all c w

-- the first byte is in the class
abbrev pub first_in : List Rng → List ℕ → Bool
first_in c [] = false
first_in c (b ∷ w) = in_c c b

-- bytes that pass a test
pub record Such (test : List ℕ → Bool) : Type 0 where
  pub bytes : List ℕ
  pub good : T (test bytes)

-- one of the words of a list
pub record Listed (words : List (List ℕ)) : Type 0 where
  pub which : ℕ
  pub known : T (ltb which (length words))

abbrev pub word_of : {words : List (List ℕ)} → Listed words → List ℕ
word_of {words} l = get_or words l.which []
