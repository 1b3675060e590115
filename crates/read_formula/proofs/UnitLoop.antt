-- The walk over the units of a formula. Assumes nothing.
use Prim.Native.Nat.{ℕ, ◌+◌, ◌-◌, ◌≤◌}
use mathlib.Core.Path.{◌≡◌, refl, sym, ap, ap₂, ◌∙◌}
use mathlib.Core.Bool.{true, false}
use mathlib.Core.List.{List}
use native.Mathlib.Omega.{arith}
use lib.ListN.{length, drop, length-drop}
use lib.Seq.{drop-drop}
use Rattle.std.specs.Prelude.{Option}
use Rattle.lang.proofs.Walks.{walk_on, walk_ends}
use Rattle.faults.specs.declared.Refusal.{Refusal}
use Rattle.read_formula.specs.declared.UnitSpan.{UnitSpan}
use Rattle.read_formula.specs.Units.{begins_unit, span_of, unit_of, unit_fault}
use Rattle.read_formula.specs.Formulas.{Counted, counted, unit_size, count_unit, units_from, formula_of}
use Rattle.read_formula.proofs.Measures.{unit_size_lem, unit_moves}

-- the first `at` bytes are n units, and g is the fault after them
pub record Passed (end : ℕ) (s : List ℕ) (f : Option Refusal) (at n : ℕ) (g : Option Refusal) : Type 0 where
  pub inside : at ≤ length s
  pub few : n ≤ at
  pub is : units_from end s (counted 0 f) ≡ units_from end (drop at s) (counted n g)

pub begin : {end : ℕ} {s : List ℕ} {f : Option Refusal} → Passed end s f 0 0 f
begin = record { inside = omega arith; few = omega arith; is = refl }

module _ {end : ℕ} {s : List ℕ} {f : Option Refusal} {at n : ℕ} {g : Option Refusal} (p : Passed end s f at n g) {r : List ℕ} (pr : r ≡ drop at s) where
  -- a unit stands here, and takes up a byte or more of what is left
  pub moves : {q : List ℕ} {u : UnitSpan} → begins_unit r ≡ true → q ≡ drop at s → u ≡ span_of q → (at + 1 ≤ at + u.len) × (at + u.len ≤ length s)
  moves {q} {u} e pq pu =
      let m = unit_moves (drop at s) (rw pr at e) in
      let l = ap (λ (u : UnitSpan). u.len) (pu ∙ ap span_of pq) ∙ sym (unit_size_lem (drop at s)) in
      let i = p.inside in
      (omega arith, omega (arith, length-drop at s))

  pub turn : {q : List ℕ} {u : UnitSpan} {h : Option Refusal} → begins_unit r ≡ true → q ≡ drop at s → u ≡ span_of q → h ≡ unit_fault g u n end (length s - at) → Passed end s f (at + u.len) (n + 1) h
  unfolding count_unit
  turn {q} {u} {h} e pq pu ph =
      let t = drop at s in
      let m = moves e pq pu in
      let v : u ≡ span_of t = pu ∙ ap span_of pq in
      let k = ph ∙ ap₂ (λ (u : UnitSpan) (k : ℕ). unit_fault g u n end k) v (sym (length-drop at s)) in
      let l = ap (λ (m : ℕ). drop (at + m) s) (unit_size_lem t ∙ ap (λ (u : UnitSpan). u.len) (sym v)) in
      let o = p.few in
      record {
        inside = m.1;
        few = omega arith;
        is = p.is ∙ walk_on begins_unit unit_size (count_unit end) unit_moves t (counted n g) (rw pr at e)
            ∙ ap₂ (λ (z : List ℕ) (a : Counted). units_from end z a) (drop-drop (unit_of t).len at s ∙ l) (ap (counted (n + 1)) (sym k));
      }

  pub ends : begins_unit r ≡ false → record { units = n; len = at; fault = g } ≡ formula_of end s f
  unfolding formula_of
  ends e =
      let i = p.inside in
      let l : length s - length (drop at s) ≡ at = omega (arith, length-drop at s) in
      sym (rw (p.is, walk_ends begins_unit unit_size (count_unit end) unit_moves (drop at s) (counted n g) (rw pr at e)) (ap (λ (k : ℕ). record { units = n; len = k; fault = g }) l))
