-- What is computed of the 118 symbols, each taken once. Assumes nothing.
use Prim.Native.Nat.{ℕ, suc, ◌<◌}
use mathlib.Core.Path.{◌≡◌, refl}
use mathlib.Core.Bool.{Bool, ◌&&◌, ◌||◌}
use mathlib.Core.List.{[]}
use lib.Dec.{T, eqb, leb, eqb→eq}
use lib.ListN.{length, get_or}
use Rattle.lang.proofs.Machine.{all→}
use Rattle.rules.specs.Elements.{symbols}
use Rattle.elements.specs.declared.Letters.{Letters}
use Rattle.elements.specs.Numbers.{word, same, number_in, atomic_of, spelled}
use Rattle.elements.proofs.Words.{same→}

pub long : length symbols ≡ 118
unfolding symbols
long = refl

abbrev letters_at : ℕ → Letters
letters_at w = spelled (get_or symbols w [])

abbrev is_word : ℕ → Bool
is_word w = same (word (letters_at w).first (letters_at w).second) (get_or symbols w [])

-- a symbol is the word of its letters
pub word_at : (w : ℕ) → w < 118 → word (spelled (get_or symbols w [])).first (spelled (get_or symbols w [])).second ≡ get_or symbols w []
unfolding symbols
word_at w h = same→ (word (letters_at w).first (letters_at w).second) (get_or symbols w []) (all→ is_word 118 tt w h)

abbrev is_number : ℕ → Bool
is_number w = eqb (atomic_of (letters_at w).first (letters_at w).second) (suc w)

-- no symbol stands twice
pub number_at_lem : (w : ℕ) → w < 118 → atomic_of (spelled (get_or symbols w [])).first (spelled (get_or symbols w [])).second ≡ suc w
unfolding symbols number_in atomic_of
number_at_lem w h = eqb→eq (atomic_of (letters_at w).first (letters_at w).second) (suc w) (all→ is_number 118 tt w h)

-- a capital, and a small letter or none
abbrev pub is_spelt : Letters → Bool
is_spelt l = (leb 65 l.first && leb l.first 90) && (eqb l.second 0 || (leb 97 l.second && leb l.second 122))

pub spelt_at : (w : ℕ) → w < 118 → T (is_spelt (spelled (get_or symbols w [])))
unfolding symbols
spelt_at w h = all→ (λ w. is_spelt (letters_at w)) 118 tt w h
