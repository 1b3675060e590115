-- The symbol that a text begins with: a capital, and a small letter if one follows it. Assumes nothing.
use Rattle.std.specs.Prelude.{ℕ, cond, List, [], ◌∷◌, length}
use Rattle.lang.specs.Re.{Rng, in_c}
use Rattle.rules.specs.Bytes.{◌to◌, capital}
use Rattle.elements.specs.declared.Element.{Element}
use Rattle.elements.specs.Numbers.{word, atomic_of}

abbrev pub small : List Rng
small = "a" to "z" ∷ []

-- the small letter that a text begins with; 0 where it begins with none
unfoldable pub small_of : List ℕ → ℕ
small_of [] = 0
small_of (b ∷ s) = cond (in_c small b) b 0

-- the symbol of two letters, known or not
abbrev pub element : ℕ → ℕ → Element
element a b = record { number = atomic_of a b; len = length (word a b) }

unfoldable pub element_of : List ℕ → Element
element_of [] = record { number = 0; len = 0 }
element_of (a ∷ s) = cond (in_c capital a) (element a (small_of s)) (record { number = 0; len = 0 })
