-- The symbol that a text begins with: what the code finds, and what it reads where a symbol is spelled. Assumes nothing.
use Prim.Native.Nat.{ℕ, suc, ◌≤◌, ◌<◌}
use mathlib.Core.Path.{◌≡◌, refl, sym, ap, ap₂, ◌∙◌}
use mathlib.Core.Bool.{Bool, true, false, cond}
use mathlib.Core.List.{List, [], ◌∷◌, ◌++◌}
use native.Mathlib.Omega.{arith}
use lib.Dec.{eqb}
use lib.ListN.{length, get_or, drop}
use borrow.Author.Tests.{eq-eqb, ne_eqb, eqb-true, eqb-false}
use Rattle.lang.specs.Re.{in_c, either}
use Rattle.lang.specs.Parts.{word_of, first_in}
use Rattle.lang.proofs.Tests.{is_t, case}
use Rattle.lang.proofs.Ranges.{range_below, range_above, range_in}
use Rattle.rules.specs.Bytes.{capital}
use Rattle.rules.specs.Elements.{Symbol, atomic_number}
use Rattle.elements.specs.declared.Element.{Element}
use Rattle.elements.specs.Numbers.{word, atomic_of, spelled}
use Rattle.elements.specs.Symbols.{small, small_of, element, element_of}
use Rattle.elements.proofs.SymbolsAgree.{Spelt, spelt_symbol, word_symbol, atomic_symbol}

-- ---- of any text

pub element_within : (s : List ℕ) → (element_of s).len ≤ length s
unfolding element_of small_of
element_within [] = omega arith
element_within (a ∷ s) = go (in_c capital a) s
  where
    two : (t : Bool) (b : ℕ) (s : List ℕ) → length (word a (cond t b 0)) ≤ suc (suc (length s))
    two true b s = at (eqb b 0)
      where
        at : (t : Bool) → length (cond t (a ∷ []) (a ∷ (b ∷ []))) ≤ suc (suc (length s))
        at true = omega arith
        at false = omega arith
    two false b s = omega arith

    go : (t : Bool) (s : List ℕ) → (cond t (element a (small_of s)) (record { number = 0; len = 0 })).len ≤ suc (length s)
    go false s = omega arith
    go true [] = omega arith
    go true (b ∷ s) = two (in_c small b) b s

-- where a capital stands, a letter or more is read
pub element_moves : (s : List ℕ) → first_in capital s ≡ true → 1 ≤ (element_of s).len
unfolding element_of
element_moves [] e = absurd (is_t {x = false} e)
element_moves (a ∷ s) e = rw e (at (eqb (small_of s) 0))
  where
    at : (t : Bool) → 1 ≤ length (cond t (a ∷ []) (a ∷ (small_of s ∷ [])))
    at true = omega arith
    at false = omega arith

-- the letters that a symbol has where a capital stands
element_first : (s : List ℕ) → first_in capital s ≡ true → element_of s ≡ element (get_or s 0 0) (small_of (drop 1 s))
unfolding element_of
element_first [] e = absurd (is_t {x = false} e)
element_first (a ∷ s) e = rw e

-- and where none stands, nothing is read
element_other : (s : List ℕ) → first_in capital s ≡ false → record { number = 0; len = 0 } ≡ element_of s
unfolding element_of
element_other [] e = refl
element_other (a ∷ s) e = rw e

-- ---- what the code finds

module _ (s : List ℕ) where
  pub second_none : length s < 2 → 0 ≡ small_of (drop 1 s)
  unfolding small_of
  second_none h = go s h
    where
      go : (s : List ℕ) → length s < 2 → 0 ≡ small_of (drop 1 s)
      go [] h = refl
      go (a ∷ []) h = refl
      go (a ∷ (b ∷ s)) h = absurd (omega arith)

  pub second_at : 2 ≤ length s → small_of (drop 1 s) ≡ cond (in_c small (get_or s 1 0)) (get_or s 1 0) 0
  unfolding small_of
  second_at h = go s h
    where
      go : (s : List ℕ) → 2 ≤ length s → small_of (drop 1 s) ≡ cond (in_c small (get_or s 1 0)) (get_or s 1 0) 0
      go [] h = absurd (omega arith)
      go (a ∷ []) h = absurd (omega arith)
      go (a ∷ (b ∷ s)) h = refl

  pub second_below : 2 ≤ length s → get_or s 1 0 < 97 → 0 ≡ small_of (drop 1 s)
  second_below h g = sym (second_at h ∙ rw (range_below 97 122 (get_or s 1 0) g))

  pub second_above : 2 ≤ length s → 122 < get_or s 1 0 → 0 ≡ small_of (drop 1 s)
  second_above h g = sym (second_at h ∙ rw (range_above 97 122 (get_or s 1 0) g))

  pub second_in : 2 ≤ length s → 97 ≤ get_or s 1 0 → get_or s 1 0 ≤ 122 → get_or s 1 0 ≡ small_of (drop 1 s)
  second_in h g k = sym (second_at h ∙ rw (range_in 97 122 (get_or s 1 0) g k))

  pub letters_none : length s < 1 → 0 ≡ (element_of s).len
  letters_none h = omega (arith, element_within s)

  first_at : 1 ≤ length s → first_in capital s ≡ in_c capital (get_or s 0 0)
  first_at h = go s h
    where
      go : (s : List ℕ) → 1 ≤ length s → first_in capital s ≡ in_c capital (get_or s 0 0)
      go [] h = absurd (omega arith)
      go (a ∷ s) h = refl

  pub letters_other : 1 ≤ length s → in_c capital (get_or s 0 0) ≡ false → 0 ≡ (element_of s).len
  letters_other h e = ap (λ (x : Element). x.len) (element_other s (first_at h ∙ e))

  module _ {b : ℕ} (h : 1 ≤ length s) (e : in_c capital (get_or s 0 0) ≡ true) (p : b ≡ small_of (drop 1 s)) where
    pub letters_one : b ≡ 0 → 1 ≡ (element_of s).len
    letters_one z = sym (rw (element_first s (first_at h ∙ e), ← p, eq-eqb b 0 z))

    pub letters_two : (b ≡ 0 → ⊥) → 2 ≡ (element_of s).len
    letters_two z = sym (rw (element_first s (first_at h ∙ e), ← p, ne_eqb b 0 z))

  module _ {l : ℕ} (p : l ≡ (element_of s).len) where
    pub element_none : l < 1 → record { number = 0; len = 0 } ≡ element_of s
    element_none h = either (λ e. absurd (omega (arith, element_moves s e))) (element_other s) (case (first_in capital s))

    pub element_some : 1 ≤ l → 1 ≤ length s
    element_some h = omega (arith, element_within s)

    pub element_is : {b n : ℕ} → 1 ≤ l → b ≡ small_of (drop 1 s) → n ≡ atomic_of (get_or s 0 0) b → record { number = n; len = l } ≡ element_of s
    element_is {b} {n} h q r = either by (λ e. absurd (omega (arith, ap (λ (x : Element). x.len) (element_other s e)))) (case (first_in capital s))
      where
        by : first_in capital s ≡ true → record { number = n; len = l } ≡ element_of s
        by e = rw p (ap (λ (m : ℕ). record { number = m; len = (element_of s).len }) (r ∙ sym (rw (element_first s e, ← q))))

-- ---- where a symbol is spelled

small_none : (k : List ℕ) → first_in small k ≡ false → small_of k ≡ 0
unfolding small_of
small_none [] e = refl
small_none (b ∷ k) e = rw e

-- letters that a symbol may have, and no small letter behind them
letters_read : (a b : ℕ) (k : List ℕ) → Spelt (record { first = a; second = b }) → first_in small k ≡ false → element_of (word a b ++ k) ≡ element a b
unfolding element_of small_of
letters_read a b k l e = either one two (case (eqb b 0))
  where
    one : eqb b 0 ≡ true → element_of (word a b ++ k) ≡ element a b
    one p = rw (p, range_in 65 90 a l.not-below-A l.not-above-Z, small_none k e, eqb-true b 0 p)

    two : eqb b 0 ≡ false → element_of (word a b ++ k) ≡ element a b
    two p =
        let m = l.small (eqb-false b 0 p) in
        rw (p, range_in 65 90 a l.not-below-A l.not-above-Z, range_in 97 122 b m.0 m.1, p)

pub element_read : (x : Symbol) (k : List ℕ) → first_in small k ≡ false → element_of (word_of x ++ k) ≡ record { number = atomic_number x; len = length (word_of x) }
element_read x k e =
    let a = (spelled (word_of x)).first in
    let b = (spelled (word_of x)).second in
    let q = word_symbol x in
    ap (λ (w : List ℕ). element_of (w ++ k)) (sym q) ∙ letters_read a b k (spelt_symbol x) e
    ∙ ap₂ (λ (n : ℕ) (w : List ℕ). record { number = n; len = length w }) (atomic_symbol x) q

-- a symbol begins with a capital
pub symbol_begins : (x : Symbol) (k : List ℕ) → first_in capital (word_of x ++ k) ≡ true
symbol_begins x k =
    let l = spelt_symbol x in
    let a = (spelled (word_of x)).first in
    let b = (spelled (word_of x)).second in
    ap (λ (w : List ℕ). first_in capital (w ++ k)) (sym (word_symbol x)) ∙ by a b (eqb b 0) (range_in 65 90 a l.not-below-A l.not-above-Z)
  where
    by : (a b : ℕ) (t : Bool) → in_c capital a ≡ true → first_in capital (cond t (a ∷ []) (a ∷ (b ∷ [])) ++ k) ≡ true
    by a b true e = e
    by a b false e = e
