-- How far a unit goes: never past the end of its text, and a byte or more where a unit begins. Assumes nothing.
use Prim.Native.Nat.{ℕ, ◌+◌, ◌-◌, ◌≤◌, min, max}
use mathlib.Core.Path.{◌≡◌, refl}
use mathlib.Core.Bool.{Bool, true, false, cond, ◌||◌}
use mathlib.Core.List.{List, [], ◌∷◌}
use native.Mathlib.Omega.{arith}
use lib.ListN.{length, drop, length-drop}
use Rattle.lang.proofs.Tests.{is_t}
use Rattle.rules.specs.Bytes.{bytes, capital}
use Rattle.rules.specs.Texts.{first_in, starts_with}
use Rattle.numbers.specs.declared.Number.{Number}
use Rattle.numbers.specs.Leading.{number_of}
use Rattle.numbers.proofs.SpelledNumbers.{number_within}
use Rattle.elements.specs.declared.Element.{Element}
use Rattle.elements.specs.Symbols.{element_of}
use Rattle.elements.proofs.Begins.{element_within, element_moves}
use Rattle.read_formula.specs.declared.UnitSpan.{UnitSpan}
use Rattle.read_formula.specs.Units.{begins_unit, or_one, plain_span, labelled_span, span_of, unit_with, unit_of}

-- a number or a symbol in the rest of a text
module _ (s : List ℕ) (at : ℕ) where
  pub number_in : (number_of (drop at s)).len ≤ length s - at
  number_in = omega (arith, number_within (drop at s), length-drop at s)

  pub element_in : (element_of (drop at s)).len ≤ length s - at
  element_in = omega (arith, element_within (drop at s), length-drop at s)

-- ---- what the code reads

module _ (s : List ℕ) {r : List ℕ} {q : ℕ} {n : Number} (pq : q ≡ (element_of s).len) (pr : r ≡ drop q s) (pn : n ≡ number_of r) where
  pub plain_fits : q + n.len ≤ length s
  plain_fits =
      let b : n.len ≤ length s - q = rw (pn, pr) (number_in s q) in
      omega (arith, element_within s)

  pub plain_is : {c : ℕ} → c ≡ or_one n → record { nucleons = 0; symbol_at = 0; count = c; count_at = q; len = q + n.len } ≡ plain_span s
  unfolding plain_span
  plain_is pc = rw (pc, pn, pr, pq)

module _ (s : List ℕ) {r : List ℕ} {a : Number} (pr : r ≡ drop 1 s) (pa : a ≡ number_of r) where
  pub nucleons_fit : 1 + a.len ≤ max 1 (length s)
  nucleons_fit = let b : a.len ≤ length s - 1 = rw (pa, pr) (number_in s 1) in omega arith

  module _ {r₂ : List ℕ} {e : ℕ} (pr₂ : r₂ ≡ drop (1 + a.len) s) (pe : e ≡ (element_of r₂).len) where
    pub symbol_fits : 1 + a.len + e ≤ max 1 (length s)
    symbol_fits =
        let b = nucleons_fit in
        let c : e ≤ length s - (1 + a.len) = rw (pe, pr₂) (element_in s (1 + a.len)) in
        omega arith

    module _ {r₃ : List ℕ} {n : Number} (pr₃ : r₃ ≡ drop (1 + a.len + e) s) (pn : n ≡ number_of r₃) where
      pub count_fits : 1 + a.len + e + n.len ≤ max 1 (length s)
      count_fits =
          let b = symbol_fits in
          let c : n.len ≤ length s - (1 + a.len + e) = rw (pn, pr₃) (number_in s (1 + a.len + e)) in
          omega arith

      pub labelled_is : {l : ℕ} → l ≡ min (1 + a.len + e + n.len + 1) (length s)
          → record { nucleons = a.value; symbol_at = 1 + a.len; count = n.value; count_at = 1 + a.len + e; len = l } ≡ labelled_span s
      unfolding labelled_span
      labelled_is pl = rw (pl, pn, pr₃, pe, pr₂, pa, pr)

pub unit_is : (s : List ℕ) {u : UnitSpan} {r : List ℕ} {e : Element} → u ≡ span_of s → r ≡ drop u.symbol_at s → e ≡ element_of r → unit_with u e.number ≡ unit_of s
unfolding unit_of
unit_is s pu pr pe = rw (pe, pr, pu)

-- ---- for callers

-- a unit is as long as it is measured
pub unit_size_lem : (s : List ℕ) → (unit_of s).len ≡ (span_of s).len
unfolding unit_of
unit_size_lem s = refl

plain_within : (s : List ℕ) → (plain_span s).len ≤ length s
unfolding plain_span
plain_within s = plain_fits s refl refl refl

labelled_within : (s : List ℕ) → (labelled_span s).len ≤ length s
unfolding labelled_span
labelled_within s = omega arith

span_within : (s : List ℕ) → (span_of s).len ≤ length s
unfolding span_of
span_within s = by (starts_with (bytes "[") s)
  where
    by : (t : Bool) → (cond t (labelled_span s) (plain_span s)).len ≤ length s
    by true = labelled_within s
    by false = plain_within s

labelled_moves : (s : List ℕ) → 1 ≤ length s → 1 ≤ (labelled_span s).len
unfolding labelled_span
labelled_moves s h = omega arith

plain_moves : (s : List ℕ) → first_in capital s ≡ true → 1 ≤ (plain_span s).len
unfolding plain_span
plain_moves s e = omega (arith, element_moves s e)

begins_some : (s : List ℕ) → begins_unit s ≡ true → 1 ≤ length s
unfolding begins_unit
begins_some [] e = absurd (is_t {x = false} e)
begins_some (b ∷ s) e = omega arith

-- without a bracket, a unit begins with a capital
begins_capital : (s : List ℕ) → begins_unit s ≡ true → starts_with (bytes "[") s ≡ false → first_in capital s ≡ true
unfolding begins_unit
begins_capital s e n = by (first_in capital s) (rw n at e)
  where
    by : (t : Bool) → t || false ≡ true → t ≡ true
    by true e = refl
    by false e = e

span_moves : (s : List ℕ) → begins_unit s ≡ true → 1 ≤ (span_of s).len
unfolding span_of
span_moves s e = by (starts_with (bytes "[") s) refl
  where
    by : (t : Bool) → starts_with (bytes "[") s ≡ t → 1 ≤ (span_of s).len
    by true p = rw p (labelled_moves s (begins_some s e))
    by false p = rw p (plain_moves s (begins_capital s e p))

pub unit_moves : (s : List ℕ) → begins_unit s ≡ true → (1 ≤ (unit_of s).len) × ((unit_of s).len ≤ length s)
unit_moves s e = rw (unit_size_lem s) (span_moves s e, span_within s)
