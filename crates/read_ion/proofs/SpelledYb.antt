-- Letters that say yb, which an internal ion means without them: whether they are written. Assumes nothing.
use Prim.Native.Nat.{ℕ}
use mathlib.Core.Path.{◌≡◌, refl, ap, ◌∙◌}
use mathlib.Core.Bool.{Bool, true, false, not, ◌&&◌, beq}
use mathlib.Core.List.{List, [], ◌∷◌, ◌++◌, map, append_assoc}
use native.Mathlib.Omega.{arith}
use lib.Dec.{T, eqb, ltb→lt}
use lib.ListN.{drop, get_or}
use borrow.Author.Tests.{ne_eqb}
use Rattle.lang.specs.Parts.{silent, written, opt_text, word_of}
use Rattle.lang.proofs.Tests.{not_t}
use Rattle.lang.proofs.Machine.{all→}
use Rattle.lang.proofs.Ranges.{in_range}
use Rattle.rules.specs.Bytes.{bytes, digit}
use Rattle.rules.specs.Texts.{starts_with, first_in, braced_text}
use Rattle.rules.specs.Numbers.{number_text}
use Rattle.rules.specs.Ions.{cleavage_names, Cleavage, series_names, Series, SpelledIon, series, internal, immonium, precursor, reference, named, composed, smiles, unknown, ion_text}
use Rattle.numbers.proofs.SpelledNumbers.{number_begins}

abbrev pub yb_written : SpelledIon → Bool
yb_written (internal (written c) m n t) = eqb c.which 4
yb_written (internal silent m n t) = false
yb_written (series s n t) = false
yb_written (immonium a m) = false
yb_written precursor = false
yb_written (reference n) = false
yb_written (named t) = false
yb_written (composed f) = false
yb_written (smiles t) = false
yb_written (unknown n) = false

-- ---- a first byte, and what follows it

pub starts_apart : (a : ℕ) (w s : List ℕ) → starts_with (a ∷ []) s ≡ false → false ≡ starts_with (a ∷ w) s
starts_apart a w [] e = refl
starts_apart a w (b ∷ s) e = by (eqb a b) e
  where
    by : (x : Bool) → (x && true) ≡ false → false ≡ (x && starts_with w s)
    by true e = absurd (not_t {x = true} e tt)
    by false e = refl

-- ---- of an ion that is spelled

abbrev is_other : List ℕ → Bool
is_other [] = false
is_other (a ∷ w) = not (eqb 109 a)

other : (s : Series) → T (is_other (word_of s))
other s = all→ (λ w. is_other (get_or (map bytes series_names) w [])) 13 tt s.which (ltb→lt s.which 13 s.known)

starts_other : (w k : List ℕ) → T (is_other w) → starts_with (bytes "myb") (w ++ k) ≡ false
starts_other [] k t = absurd t
starts_other (a ∷ w) k t = by (eqb 109 a) t
  where
    by : (x : Bool) → T (not x) → (x && starts_with (bytes "yb") (w ++ k)) ≡ false
    by true t = absurd t
    by false t = refl

-- a digit is no letter
starts_digit : (k : List ℕ) → first_in digit k ≡ true → starts_with (bytes "yb") k ≡ false
starts_digit [] e = refl
starts_digit (d ∷ k) e = let r = in_range 48 57 d e in rw (ne_eqb 121 d (λ q. omega arith))

abbrev is_yb : Bool → List ℕ → Bool
is_yb x [] = false
is_yb x (a ∷ []) = false
is_yb x (a ∷ b ∷ []) = beq (eqb 121 a && (eqb 98 b && true)) x
is_yb x (a ∷ b ∷ d ∷ w) = false

yb : (c : Cleavage) → T (is_yb (eqb c.which 4) (word_of c))
yb c = all→ (λ w. is_yb (eqb w 4) (get_or (map bytes cleavage_names) w [])) 9 tt c.which (ltb→lt c.which 9 c.known)

same_bool : (x y : Bool) → T (beq x y) → x ≡ y
same_bool true true t = refl
same_bool true false t = absurd t
same_bool false true t = absurd t
same_bool false false t = refl

starts_yb : (x : Bool) (w k : List ℕ) → T (is_yb x w) → starts_with (bytes "yb") (w ++ k) ≡ x
starts_yb x [] k t = absurd t
starts_yb x (a ∷ []) k t = absurd t
starts_yb x (a ∷ b ∷ []) k t = same_bool (eqb 121 a && (eqb 98 b && true)) x t
starts_yb x (a ∷ b ∷ d ∷ w) k t = absurd t

-- behind the letters
behind_two : (x : Bool) (w k : List ℕ) → T (is_yb x w) → drop 2 (w ++ k) ≡ k
behind_two x [] k t = absurd t
behind_two x (a ∷ []) k t = absurd t
behind_two x (a ∷ b ∷ []) k t = refl
behind_two x (a ∷ b ∷ d ∷ w) k t = absurd t

pub behind_letters : (c : Cleavage) (k : List ℕ) → drop 2 (word_of c ++ k) ≡ k
behind_letters c k = behind_two (eqb c.which 4) (word_of c) k (yb c)

abbrev Spelled : SpelledIon → List ℕ → Type 0
Spelled x k = starts_with (bytes "myb") (ion_text x ++ k) ≡ yb_written x

pub yb_read : (x : SpelledIon) (k : List ℕ) → Spelled x k
yb_read (series s n t) k = ap (starts_with (bytes "myb")) (append_assoc (word_of s) (number_text n ++ opt_text braced_text t) k) ∙ starts_other (word_of s) ((number_text n ++ opt_text braced_text t) ++ k) (other s)
yb_read (internal silent m n t) k =
    let rest = bytes ":" ++ (number_text n ++ opt_text braced_text t) in
    ap (starts_with (bytes "yb")) (append_assoc (number_text m) rest k) ∙ starts_digit (number_text m ++ (rest ++ k)) (number_begins m.value (rest ++ k))
yb_read (internal (written c) m n t) k =
    let rest = number_text m ++ (bytes ":" ++ (number_text n ++ opt_text braced_text t)) in
    ap (starts_with (bytes "yb")) (append_assoc (word_of c) rest k) ∙ starts_yb (eqb c.which 4) (word_of c) (rest ++ k) (yb c)
yb_read (immonium a m) k = refl
yb_read precursor k = refl
yb_read (reference n) k = refl
yb_read (named t) k = refl
yb_read (composed f) k = refl
yb_read (smiles t) k = refl
yb_read (unknown n) k = refl
