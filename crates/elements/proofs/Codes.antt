-- The letters of a symbol as one number, from its atomic number. Assumes nothing.
use Prim.Native.Nat.{ℕ, zero, suc, ◌+◌, ◌*◌, ◌/◌, ◌%◌, ◌≤◌, ◌<◌}
use mathlib.Core.Path.{◌≡◌, refl, sym, ap}
use mathlib.Core.List.{[]}
use native.Mathlib.Decide.{ℕ_discrete, dec_le}
use native.Mathlib.Omega.{arith}
use lib.ListN.{length, get_or-eq_default}
use Rattle.lang.proofs.Arms.{NoneTo, none_to}
use Rattle.rules.specs.Elements.{symbols}
use Rattle.elements.specs.declared.Letters.{Letters}
use Rattle.elements.specs.Numbers.{letters_of, code_of}
use Rattle.elements.proofs.Table.{long}
use Rattle.elements.proofs.SymbolsAgree.{Spelt, spelt_letters}

abbrev none : Letters
none = record { first = 0; second = 0 }

letters_past : (n : ℕ) → 118 < n → letters_of n ≡ none
unfolding letters_of
letters_past zero h = refl
letters_past (suc w) h = let g : length symbols ≤ w = omega (arith, long) in rw (get_or-eq_default symbols [] g)

pub code_is : {n : ℕ} (k : ℕ) → n ≡ k → code_of k ≡ code_of n
code_is k e = ap code_of (sym e)

pub no_code : (n : ℕ) → NoneTo 118 n → 0 ≡ code_of n
unfolding letters_of code_of
no_code zero h = refl
no_code (suc w) h = by (dec_le (suc w) 118)
  where
    by : Dec (suc w ≤ 118) → 0 ≡ code_of (suc w)
    by (yes g) = absurd (none_to 118 (suc w) h (omega arith) g)
    by (no g) = rw (letters_past (suc w) (omega (arith, g)))

spelt_second : (l : Letters) → Spelt l → l.second < 256
spelt_second l s = by (ℕ_discrete l.second 0)
  where
    by : Dec (l.second ≡ 0) → l.second < 256
    by (yes e) = omega arith
    by (no h) = omega (arith, (s.small h).1)

pub second_is_byte : (n : ℕ) → (letters_of n).second < 256
unfolding letters_of
second_is_byte zero = omega arith
second_is_byte (suc w) = by (dec_le (suc w) 118)
  where
    by : Dec (suc w ≤ 118) → (letters_of (suc w)).second < 256
    by (yes h) = spelt_second (letters_of (suc w)) (spelt_letters (suc w) (omega arith) h)
    by (no h) = rw (letters_past (suc w) (omega (arith, h))) (omega arith)

-- a code gives back its letters
apart : (l : Letters) → l.second < 256 → record { first = (l.first * 256 + l.second) / 256; second = (l.first * 256 + l.second) % 256 } ≡ l
apart l h =
    let f : (l.first * 256 + l.second) / 256 ≡ l.first = omega arith in
    let s : (l.first * 256 + l.second) % 256 ≡ l.second = omega arith in
    rw (f, s)

pub letters_by_code : {code : ℕ} (n : ℕ) → code ≡ code_of n → record { first = code / 256; second = code % 256 } ≡ letters_of n
unfolding code_of
letters_by_code n e = rw e (apart (letters_of n) (second_is_byte n))
