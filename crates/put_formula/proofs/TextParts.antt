-- The pieces of a unit's text, and the words of a record. Assumes nothing.
use Prim.Native.Nat.{ℕ, ◌<◌, ◌≤◌}
use mathlib.Core.Path.{◌≡◌, sym, ap, ◌∙◌}
use mathlib.Core.List.{List, [], ◌∷◌, ◌++◌, append-nil}
use lib.ListN.{take}
use borrow.Author.Tests.{eq-eqb, ne_eqb, le-leb, lt-leb}
use Rattle.rules.specs.Numbers.{digits}
use Rattle.elements.specs.declared.Letters.{Letters}
use Rattle.elements.specs.Numbers.{letters_of}
use Rattle.read_formula.specs.declared.UnitRead.{UnitRead}
use Rattle.read_formula.specs.declared.UnitSpan.{UnitSpan}
use Rattle.read_formula.specs.Units.{span_of, unit_of}
use Rattle.read_formula.specs.Formulas.{unit_size}
use Rattle.put_formula.specs.Preferred.{symbol_text, plain_text, labelled_text, preferred_unit, kept_of, kept_unit}

-- ---- symbols

module _ (n : ℕ) {l : Letters} (e : l ≡ letters_of n) where
  pub symbol_none : l.first ≡ 0 → [] ≡ symbol_text n
  unfolding symbol_text
  symbol_none z = rw (← e, eq-eqb l.first 0 z)

  pub symbol_one : (l.first ≡ 0 → ⊥) → l.second ≡ 0 → l.first ∷ [] ≡ symbol_text n
  unfolding symbol_text
  symbol_one a z = rw (← e, ne_eqb l.first 0 a, eq-eqb l.second 0 z)

  pub symbol_two : (l.first ≡ 0 → ⊥) → (l.second ≡ 0 → ⊥) → l.first ∷ l.second ∷ [] ≡ symbol_text n
  unfolding symbol_text
  symbol_two a b = rw (← e, ne_eqb l.first 0 a, ne_eqb l.second 0 b)

-- ---- units

pub plain_one : (u : UnitRead) → u.count ≤ 1 → symbol_text u.element ≡ plain_text u
unfolding plain_text
plain_one u h = rw (le-leb u.count 1 h) (sym (append-nil (symbol_text u.element)))

pub plain_more : (u : UnitRead) → 1 < u.count → symbol_text u.element ++ digits u.count ≡ plain_text u
unfolding plain_text
plain_more u h = rw (lt-leb u.count 1 h)

pub unit_plain : (u : UnitRead) → u.nucleons ≡ 0 → plain_text u ≡ preferred_unit u
unfolding preferred_unit
unit_plain u h = rw (eq-eqb u.nucleons 0 h)

pub unit_labelled : (u : UnitRead) → (u.nucleons ≡ 0 → ⊥) → labelled_text u ≡ preferred_unit u
unfolding preferred_unit
unit_labelled u h = rw (ne_eqb u.nucleons 0 h)

-- ---- units as they stand

pub kept_labelled : (u : UnitSpan) → (u.nucleons ≡ 0 → ⊥) → u.len ≡ kept_of u
unfolding kept_of
kept_labelled u h = rw (ne_eqb u.nucleons 0 h)

pub kept_one : (u : UnitSpan) → u.nucleons ≡ 0 → u.count ≤ 1 → u.count_at ≡ kept_of u
unfolding kept_of
kept_one u z h = rw (eq-eqb u.nucleons 0 z, le-leb u.count 1 h)

pub kept_more : (u : UnitSpan) → u.nucleons ≡ 0 → 1 < u.count → u.len ≡ kept_of u
unfolding kept_of
kept_more u z h = rw (eq-eqb u.nucleons 0 z, lt-leb u.count 1 h)

-- of the unit that r begins with: the bytes that are copied, and how far it goes
module _ (r : List ℕ) {u : UnitSpan} (e : u ≡ span_of r) where
  pub copied : {x : List ℕ} {n : ℕ} → x ≡ take n r → n ≡ kept_of u → x ≡ kept_unit r
  unfolding kept_unit
  copied p k = p ∙ ap (λ (m : ℕ). take m r) (k ∙ ap kept_of e)

  pub span_size : u.len ≡ unit_size r
  unfolding unit_of
  span_size = ap (λ (v : UnitSpan). v.len) e
