-- What is read of a series that is spelled, where a digit follows it. Assumes nothing.
use Prim.Native.Nat.{ℕ, suc, ◌+◌}
use mathlib.Core.Path.{◌≡◌, refl, sym, ap, ◌∙◌}
use mathlib.Core.Bool.{Bool, true, false, cond, ◌&&◌, ◌||◌}
use mathlib.Core.List.{List, [], ◌∷◌, ◌++◌, map}
use native.Mathlib.Numerals.{add-one}
use native.Mathlib.Omega.{arith}
use lib.Dec.{T, eqb, leb, eqb→eq, leb→le, ltb→lt}
use lib.ListN.{length, get_or}
use borrow.Author.Tests.{ne_eqb}
use Rattle.std.specs.Prelude.{Option, Some, None}
use Rattle.lang.specs.Re.{in_c, either}
use Rattle.lang.specs.Parts.{word_of}
use Rattle.lang.proofs.Deriv.{and_0, and_1, or_e}
use Rattle.lang.proofs.Tests.{is_t}
use Rattle.lang.proofs.Machine.{all→}
use Rattle.lang.proofs.Ranges.{in_range}
use Rattle.rules.specs.Bytes.{bytes, digit}
use Rattle.rules.specs.Texts.{first_in}
use Rattle.rules.specs.Ions.{series_names, Series}
use Rattle.faults.specs.declared.Refusal.{Refusal}
use Rattle.read_ion.specs.Letters.{place_from, one_letter, two_letters, letters_of}
use Rattle.read_ion.specs.Kinds.{series_of}
use Rattle.read_ion.specs.Ions.{ion_of}
use Rattle.read_ion.proofs.Found.{NoneOf, first_other}

-- ---- what is computed of the thirteen words

-- a byte that begins no other kind of ion
abbrev is_apart : ℕ → Bool
is_apart a = (leb 97 a && leb a 100) || (leb 118 a && leb a 122)

-- a number where one is told
abbrev is_told : ℕ → Option ℕ → Bool
is_told n None = false
is_told n (Some m) = eqb m n

told : (n : ℕ) (o : Option ℕ) → T (is_told n o) → o ≡ Some n
told n None t = absurd t
told n (Some m) t = ap (λ (k : ℕ). Some k) (eqb→eq m n t)

-- a word of one or two letters that has a number
abbrev is_placed : ℕ → List ℕ → Bool
is_placed n [] = false
is_placed n (a ∷ []) = is_apart a && is_told n (one_letter a)
is_placed n (a ∷ b ∷ []) = is_apart a && is_told n (two_letters a b)
is_placed n (a ∷ b ∷ d ∷ w) = false

placed : (s : Series) → T (is_placed (suc s.which) (word_of s))
unfolding one_letter place_from two_letters
placed s = all→ (λ w. is_placed (suc w) (get_or (map bytes series_names) w [])) 13 tt s.which (ltb→lt s.which 13 s.known)

-- ---- what follows from it

-- a digit is no second letter
two_none : (a d : ℕ) → in_c digit d ≡ true → two_letters a d ≡ None
unfolding two_letters
two_none a d e =
    let r = in_range 48 57 d e in
    rw (ne_eqb d 97 (λ q. omega arith), ne_eqb d 98 (λ q. omega arith)) (by (eqb a 100) (eqb a 119))
  where
    by : (x y : Bool) → ◌≡◌ {A = Option ℕ} (cond x None (cond y None None)) None
    by true y = refl
    by false true = refl
    by false false = refl

letters_in : (n : ℕ) (w k : List ℕ) → T (is_placed (suc n) w) → first_in digit k ≡ true → letters_of (w ++ k) ≡ record { letter = Some (suc n); len = length w }
unfolding letters_of
letters_in n [] k t e = absurd t
letters_in n (a ∷ []) [] t e = absurd (is_t {x = false} e)
letters_in n (a ∷ []) (d ∷ k) t e = rw (two_none a d e, told (suc n) (one_letter a) (and_1 (is_apart a) (is_told (suc n) (one_letter a)) t))
letters_in n (a ∷ b ∷ []) k t e = rw (told (suc n) (two_letters a b) (and_1 (is_apart a) (is_told (suc n) (two_letters a b)) t))
letters_in n (a ∷ b ∷ d ∷ w) k t e = absurd t

pub letters_read : (s : Series) (k : List ℕ) → first_in digit k ≡ true → letters_of (word_of s ++ k) ≡ record { letter = Some (s.which + 1); len = length (word_of s) }
letters_read s k e = letters_in s.which (word_of s) k (placed s) e ∙ ap (λ (n : ℕ). record { letter = Some n; len = length (word_of s) }) (sym (add-one s.which))

-- ---- a series begins no other kind of ion

apart : (a : ℕ) → T (is_apart a) → NoneOf a (63 ∷ 115 ∷ 102 ∷ 95 ∷ 114 ∷ 112 ∷ 73 ∷ 109 ∷ [])
apart a t = either low high (or_e (leb 97 a && leb a 100) (leb 118 a && leb a 122) t)
  where
    low : T (leb 97 a && leb a 100) → NoneOf a (63 ∷ 115 ∷ 102 ∷ 95 ∷ 114 ∷ 112 ∷ 73 ∷ 109 ∷ [])
    low t =
        let x = leb→le 97 a (and_0 (leb 97 a) (leb a 100) t) in
        let y = leb→le a 100 (and_1 (leb 97 a) (leb a 100) t) in
        ((((((((tt, λ q. omega arith), λ q. omega arith), λ q. omega arith), λ q. omega arith), λ q. omega arith), λ q. omega arith), λ q. omega arith), λ q. omega arith)

    high : T (leb 118 a && leb a 122) → NoneOf a (63 ∷ 115 ∷ 102 ∷ 95 ∷ 114 ∷ 112 ∷ 73 ∷ 109 ∷ [])
    high t =
        let x = leb→le 118 a (and_0 (leb 118 a) (leb a 122) t) in
        ((((((((tt, λ q. omega arith), λ q. omega arith), λ q. omega arith), λ q. omega arith), λ q. omega arith), λ q. omega arith), λ q. omega arith), λ q. omega arith)

first_in_lem : (n : ℕ) (w k : List ℕ) → T (is_placed n w) → NoneOf (get_or (w ++ k) 0 0) (63 ∷ 115 ∷ 102 ∷ 95 ∷ 114 ∷ 112 ∷ 73 ∷ 109 ∷ [])
first_in_lem n [] k t = absurd t
first_in_lem n (a ∷ []) k t = apart a (and_0 (is_apart a) (is_told n (one_letter a)) t)
first_in_lem n (a ∷ b ∷ []) k t = apart a (and_0 (is_apart a) (is_told n (two_letters a b)) t)
first_in_lem n (a ∷ b ∷ d ∷ w) k t = absurd t

pub series_first : (s : Series) (k : List ℕ) (end : ℕ) (f : Option Refusal) → series_of end (word_of s ++ k) f ≡ ion_of end (word_of s ++ k) f
series_first s k end f = first_other (word_of s ++ k) end f refl (first_in_lem (suc s.which) (word_of s) k (placed s))
