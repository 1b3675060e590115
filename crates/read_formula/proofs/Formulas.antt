-- What is read of a formula that is spelled. Assumes nothing.
use Prim.Native.Nat.{ℕ, ◌+◌, ◌-◌, ◌≤◌}
use mathlib.Core.Path.{◌≡◌, refl, ap, ap₂, ◌∙◌}
use mathlib.Core.Bool.{true, false}
use mathlib.Core.List.{List, [], ◌∷◌, ◌++◌, append_assoc}
use native.Mathlib.Omega.{arith}
use lib.ListN.{length, length-append}
use Rattle.std.specs.Prelude.{Option}
use Rattle.lang.specs.Parts.{items, flat}
use Rattle.lang.specs.Walk.{Walked, walked, folded}
use Rattle.lang.proofs.Walks.{walk_spelled}
use Rattle.rules.specs.Bytes.{digit}
use Rattle.rules.specs.Texts.{first_in}
use Rattle.rules.specs.Formulas.{Written, FormulaUnit, plain, labelled, unit_text, Formula, formula_text}
use Rattle.rules.specs.Limits.{unit_marks, formula_part}
use Rattle.elements.specs.Symbols.{small}
use Rattle.faults.specs.declared.Refusal.{Refusal}
use Rattle.read_formula.specs.declared.UnitSpan.{UnitSpan}
use Rattle.faults.specs.Faults.{after}
use Rattle.read_formula.specs.Units.{begins_unit, span_of, unit_fault}
use Rattle.read_formula.specs.Formulas.{Counted, counted, unit_size, count_unit, units_from, formula_of}
use Rattle.read_formula.proofs.Measures.{unit_size_lem, unit_moves}
use Rattle.read_formula.proofs.Rows.{turn_of, row_fold}
use Rattle.read_formula.proofs.Spelled.{unit_span, begins_unit_lem, unit_no_digit, unit_no_small, span_read}
use Rattle.read_formula.proofs.Limits.{unit_told}
use Rattle.read_formula.proofs.Ends.{EndsFormula}

-- behind a unit stand units, and then what follows the formula
units_no_digit : (us : List (FormulaUnit Written)) (k : List ℕ) → EndsFormula k → first_in digit (flat unit_text us ++ k) ≡ false
units_no_digit [] k e = e.no_digit
units_no_digit (u ∷ us) k e = rw (append_assoc (unit_text u) (flat unit_text us) k) (unit_no_digit u (flat unit_text us ++ k))

units_no_small : (us : List (FormulaUnit Written)) (k : List ℕ) → EndsFormula k → first_in small (flat unit_text us ++ k) ≡ false
units_no_small [] k e = e.no_small
units_no_small (u ∷ us) k e = rw (append_assoc (unit_text u) (flat unit_text us) k) (unit_no_small u (flat unit_text us ++ k))

unit_here : (u : FormulaUnit Written) (us : List (FormulaUnit Written)) (k : List ℕ) → EndsFormula k → span_of (unit_text u ++ (flat unit_text us ++ k)) ≡ unit_span u
unit_here u us k e = span_read u (flat unit_text us ++ k) (units_no_digit us k e) (units_no_small us k e)

unit_long : (u : FormulaUnit Written) → (unit_span u).len ≡ length (unit_text u)
unit_long (plain s c) = refl
unit_long (labelled a s c) = refl

-- the fault after a unit, by how many bytes are left where it begins
abbrev tell_unit : ℕ → Option Refusal → FormulaUnit Written → ℕ → ℕ → Option Refusal
tell_unit end f u i left = unit_fault f (unit_span u) i end left

unit_turns : (end : ℕ) (a : Counted) (u : FormulaUnit Written) (us : List (FormulaUnit Written)) (k : List ℕ) → EndsFormula k
    → count_unit end a (unit_text u ++ (flat unit_text us ++ k)) ≡ turn_of unit_text (tell_unit end) a u (length (flat unit_text us) + length k)
unfolding count_unit
unit_turns end a u us k e =
    ap₂ (λ (r : UnitSpan) (l : ℕ). counted (a.units + 1) (unit_fault a.fault r a.units end l)) (unit_here u us k e)
    (length-append (unit_text u) (flat unit_text us ++ k) ∙ ap (λ (l : ℕ). length (unit_text u) + l) (length-append (flat unit_text us) k))

units_read : (us : List (FormulaUnit Written)) (k : List ℕ) (end : ℕ) (a : Counted) → EndsFormula k
    → units_from end (flat unit_text us ++ k) a ≡ walked k (folded unit_text (turn_of unit_text (tell_unit end)) a us (length k))
units_read us k end a e =
    walk_spelled begins_unit unit_size (count_unit end) unit_moves unit_text (turn_of unit_text (tell_unit end)) EndsFormula
    (λ k e. e.no_unit)
    (λ u us k e. begins_unit_lem u (flat unit_text us ++ k))
    (λ u us k e. unit_size_lem (unit_text u ++ (flat unit_text us ++ k)) ∙ ap (λ (r : UnitSpan). r.len) (unit_here u us k e) ∙ unit_long u)
    (unit_turns end) us k a e

pub formula_read : (x : Formula Written) (k : List ℕ) (end : ℕ) (f : Option Refusal) → EndsFormula k → length (formula_text x ++ k) ≤ end
    → formula_of end (formula_text x ++ k) f ≡ record { units = length (items x); len = length (formula_text x); fault = after f ((formula_part x).marks (end - length (formula_text x ++ k))) }
unfolding formula_of
formula_read x k end f e h =
    let l = length-append (formula_text x) k in
    let left = length (flat unit_text (items x)) + length k in
    let n : 0 + length (items x) ≡ length (items x) = omega arith in
    let m : length (formula_text x ++ k) - length k ≡ length (formula_text x) = omega arith in
    let p : end - left ≡ end - length (formula_text x ++ k) = omega arith in
    let g : length (flat unit_text (items x)) + length k ≤ end = omega arith in
    let w = units_read (items x) k end (counted 0 f) e ∙ ap (walked k) (row_fold unit_text unit_marks (tell_unit end) end (unit_told end) (items x) (length k) 0 f g) in
    ap (λ (w : Walked Counted). record { units = w.known.units; len = length (formula_text x ++ k) - length w.rest; fault = w.known.fault }) w
    ∙ ap₂ (λ (n m : ℕ). record { units = n; len = m; fault = after f ((formula_part x).marks (end - left)) }) n m
    ∙ ap (λ (p : ℕ). record { units = length (items x); len = length (formula_text x); fault = after f ((formula_part x).marks p) }) p

-- ---- what a formula begins with

pub begins_formula : (x : Formula Written) (k : List ℕ) → begins_unit (formula_text x ++ k) ≡ true
begins_formula x k = rw (append_assoc (unit_text x.first) (flat unit_text x.more) k) (begins_unit_lem x.first (flat unit_text x.more ++ k))

pub formula_no_digit : (x : Formula Written) (k : List ℕ) → first_in digit (formula_text x ++ k) ≡ false
formula_no_digit x k = rw (append_assoc (unit_text x.first) (flat unit_text x.more) k) (unit_no_digit x.first (flat unit_text x.more ++ k))

pub formula_no_small : (x : Formula Written) (k : List ℕ) → first_in small (formula_text x ++ k) ≡ false
formula_no_small x k = rw (append_assoc (unit_text x.first) (flat unit_text x.more) k) (unit_no_small x.first (flat unit_text x.more ++ k))

-- ---- of any text

pub formula_within : (end : ℕ) (s : List ℕ) (f : Option Refusal) → (formula_of end s f).len ≤ length s
unfolding formula_of
formula_within end s f = omega arith
