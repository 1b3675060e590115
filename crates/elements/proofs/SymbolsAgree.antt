-- Symbols, letters and atomic numbers belong together. Assumes nothing.
use Prim.Native.Nat.{ℕ, zero, suc, ◌+◌, ◌-◌, ◌≤◌, ◌<◌}
use mathlib.Core.Path.{◌≡◌, refl, sym, ◌∙◌}
use mathlib.Core.Bool.{Bool, true, false, cond, ◌&&◌, ◌||◌}
use mathlib.Core.List.{List, [], ◌∷◌}
use native.Mathlib.Numerals.{add-one}
use native.Mathlib.Decide.{ℕ_discrete}
use native.Mathlib.Omega.{arith}
use lib.Dec.{T, eqb, leb, eqb→eq, leb→le, lt→ltb, ltb→lt}
use lib.ListN.{length, get_or}
use borrow.Author.Tests.{eqb-true}
use Rattle.lang.specs.Re.{either}
use Rattle.lang.specs.Parts.{word_of}
use Rattle.lang.proofs.Deriv.{and_0, and_1, or_e}
use Rattle.lang.proofs.Tests.{is_t, case}
use Rattle.rules.specs.Elements.{symbols, Symbol, atomic_number}
use Rattle.elements.specs.declared.Letters.{Letters}
use Rattle.elements.specs.Numbers.{word, same, number_in, atomic_of, spelled, letters_of}
use Rattle.elements.proofs.Words.{same→}
use Rattle.elements.proofs.Table.{long, word_at, number_at_lem, is_spelt, spelt_at}

-- From a symbol to its letters and its number.

pub which_below : (x : Symbol) → x.which < 118
which_below x = omega (arith, long, ltb→lt x.which (length symbols) x.known)

pub atomic_symbol : (x : Symbol) → atomic_of (spelled (word_of x)).first (spelled (word_of x)).second ≡ atomic_number x
atomic_symbol x = number_at_lem x.which (which_below x) ∙ sym (add-one x.which)

pub letters_symbol : (x : Symbol) → letters_of (atomic_number x) ≡ spelled (word_of x)
unfolding letters_of
letters_symbol x = rw (add-one x.which)

pub word_symbol : (x : Symbol) → word (spelled (word_of x)).first (spelled (word_of x)).second ≡ word_of x
word_symbol x = word_at x.which (which_below x)

-- From a number to its letters, and back.

pub letters_word : (n : ℕ) → 1 ≤ n → n ≤ 118 → word (letters_of n).first (letters_of n).second ≡ get_or symbols (n - 1) []
unfolding letters_of
letters_word zero h g = absurd (omega arith)
letters_word (suc w) h g = let e : suc w - 1 ≡ w = omega arith in rw e (word_at w g)

pub letters_number : (n : ℕ) → 1 ≤ n → n ≤ 118 → atomic_of (letters_of n).first (letters_of n).second ≡ n
unfolding letters_of
letters_number zero h g = absurd (omega arith)
letters_number (suc w) h g = number_at_lem w g

-- From letters to a symbol.

-- the word that has the number m, where the list's first has the number n
record Found (l : List (List ℕ)) (n m : ℕ) (w : List ℕ) : Type 0 where
  at : ℕ
  inside : at < length l
  number : m ≡ n + at
  is : get_or l at [] ≡ w

found : (l : List (List ℕ)) (n : ℕ) (w : List ℕ) → (number_in l n w ≡ 0 → ⊥) → Found l n (number_in l n w) w
unfolding number_in
found [] n w h = absurd (h refl)
found (v ∷ l) n w h = either hit (λ p. miss p (found l (suc n) w)) (case (same v w))
  where
    hit : same v w ≡ true → Found (v ∷ l) n (cond (same v w) n (number_in l (suc n) w)) w
    hit p = rw p (record { at = 0; inside = omega arith; number = omega arith; is = same→ v w (is_t p) })

    miss : same v w ≡ false → ((number_in l (suc n) w ≡ 0 → ⊥) → Found l (suc n) (number_in l (suc n) w) w) → Found (v ∷ l) n (cond (same v w) n (number_in l (suc n) w)) w
    miss p f =
        let r = f (rw p at h) in
        rw p (record { at = suc r.at; inside = omega (arith, r.inside); number = omega (arith, r.number); is = r.is })

-- letters with a number are those of a symbol with that number
pub record Known (a b n : ℕ) : Type 0 where
  pub which : Symbol
  pub number : atomic_number which ≡ n
  pub letters : word_of which ≡ word a b

pub atomic_which : (a b : ℕ) → (atomic_of a b ≡ 0 → ⊥) → Known a b (atomic_of a b)
unfolding atomic_of
atomic_which a b h =
    let r = found symbols 1 (word a b) h in
    record { which = record { which = r.at; known = lt→ltb r.at (length symbols) r.inside }; number = omega (arith, r.number); letters = r.is }

pub atomic_within : (a b : ℕ) → atomic_of a b ≤ 118
atomic_within a b = by (ℕ_discrete (atomic_of a b) 0)
  where
    by : Dec (atomic_of a b ≡ 0) → atomic_of a b ≤ 118
    by (yes e) = omega arith
    by (no h) = let k = atomic_which a b h in omega (arith, k.number, which_below k.which)

pub atomic_known : (a b n : ℕ) → atomic_of a b ≡ n → (n ≡ 0 → ⊥) → (n ≤ 118) × (get_or symbols (n - 1) [] ≡ word a b)
atomic_known a b n e h =
    let k = atomic_which a b (λ z. h (sym e ∙ z)) in
    let q : n - 1 ≡ k.which.which = omega (arith, k.number, e) in
    (omega (arith, atomic_within a b), rw q k.letters)

-- Which bytes the letters are.

-- a capital, and a small letter or none
pub record Spelt (l : Letters) : Type 0 where
  pub not-below-A : 65 ≤ l.first
  pub not-above-Z : l.first ≤ 90
  pub small : (l.second ≡ 0 → ⊥) → (97 ≤ l.second) × (l.second ≤ 122)

spelt_from : (l : Letters) → T (is_spelt l) → Spelt l
spelt_from l t =
    let one : Bool = leb 65 l.first && leb l.first 90 in
    let two : Bool = leb 97 l.second && leb l.second 122 in
    let f = and_0 one (eqb l.second 0 || two) t in
    let s = or_e (eqb l.second 0) two (and_1 one (eqb l.second 0 || two) t) in
    record {
      not-below-A = leb→le 65 l.first (and_0 (leb 65 l.first) (leb l.first 90) f);
      not-above-Z = leb→le l.first 90 (and_1 (leb 65 l.first) (leb l.first 90) f);
      small = λ h. either
          (λ z. absurd (h (eqb→eq l.second 0 z)))
          (λ z. (leb→le 97 l.second (and_0 (leb 97 l.second) (leb l.second 122) z), leb→le l.second 122 (and_1 (leb 97 l.second) (leb l.second 122) z)))
          s;
    }

pub spelt_symbol : (x : Symbol) → Spelt (spelled (word_of x))
spelt_symbol x = spelt_from (spelled (word_of x)) (spelt_at x.which (which_below x))

pub spelled_word : (a b : ℕ) → spelled (word a b) ≡ record { first = a; second = b }
spelled_word a b = either (λ p. rw (p, eqb-true b 0 p)) (λ p. rw p) (case (eqb b 0))

-- letters that have a number
pub spelt_known : (a b : ℕ) → (atomic_of a b ≡ 0 → ⊥) → Spelt (record { first = a; second = b })
spelt_known a b h =
    let k = atomic_which a b h in
    rw (k.letters, spelled_word a b) at (spelt_symbol k.which)

pub no_capital : (a b : ℕ) → (65 ≤ a → a ≤ 90 → ⊥) → atomic_of a b ≡ 0
no_capital a b h = by (ℕ_discrete (atomic_of a b) 0)
  where
    by : Dec (atomic_of a b ≡ 0) → atomic_of a b ≡ 0
    by (yes e) = e
    by (no n) = let s = spelt_known a b n in absurd (h s.not-below-A s.not-above-Z)

pub no_small : (a b : ℕ) → (b ≡ 0 → ⊥) → (97 ≤ b → b ≤ 122 → ⊥) → atomic_of a b ≡ 0
no_small a b z h = by (ℕ_discrete (atomic_of a b) 0)
  where
    by : Dec (atomic_of a b ≡ 0) → atomic_of a b ≡ 0
    by (yes e) = e
    by (no n) = let s = (spelt_known a b n).small z in absurd (h s.0 s.1)

pub spelt_letters : (n : ℕ) → 1 ≤ n → n ≤ 118 → Spelt (letters_of n)
unfolding letters_of
spelt_letters zero h g = absurd (omega arith)
spelt_letters (suc w) h g = spelt_from (spelled (get_or symbols w [])) (spelt_at w g)
