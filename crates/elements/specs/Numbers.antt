-- Symbols by their letters and by their atomic numbers, over the list of the rules. Assumes nothing.
use Rattle.std.specs.Prelude.{ℕ, zero, suc, ◌+◌, ◌*◌, Bool, true, false, cond, ◌&&◌, List, [], ◌∷◌, eqb, get_or}
use Rattle.rules.specs.Elements.{symbols}
use Rattle.elements.specs.declared.Letters.{Letters}

-- the word of two letters, the second being 0 where there is none
abbrev pub word : ℕ → ℕ → List ℕ
word a b = cond (eqb b 0) (a ∷ []) (a ∷ (b ∷ []))

abbrev pub same : List ℕ → List ℕ → Bool
same [] [] = true
same [] (b ∷ v) = false
same (a ∷ u) [] = false
same (a ∷ u) (b ∷ v) = eqb a b && same u v

-- the number of the first word that is w, the list's first having the number n; 0 where there is none
unfoldable pub number_in : List (List ℕ) → ℕ → List ℕ → ℕ
number_in [] n w = 0
number_in (v ∷ vs) n w = cond (same v w) n (number_in vs (suc n) w)

-- the atomic number of the symbol with these letters; 0 where there is none
unfoldable pub atomic_of : ℕ → ℕ → ℕ
atomic_of a b = number_in symbols 1 (word a b)

-- the letters of a word of one or two
abbrev pub spelled : List ℕ → Letters
spelled [] = record { first = 0; second = 0 }
spelled (a ∷ []) = record { first = a; second = 0 }
spelled (a ∷ (b ∷ w)) = record { first = a; second = b }

-- the letters of the symbol with an atomic number; zeros where there is none
unfoldable pub letters_of : ℕ → Letters
letters_of zero = record { first = 0; second = 0 }
letters_of (suc w) = spelled (get_or symbols w [])

-- the two letters as one number
unfoldable pub code_of : ℕ → ℕ
code_of n = (letters_of n).first * 256 + (letters_of n).second
