-- The limits of a spelled unit, as they are found where it is read. Assumes nothing.
use Prim.Native.Nat.{ℕ, ◌+◌, ◌-◌, ◌≤◌, ◌<◌}
use mathlib.Core.Path.{◌≡◌, refl, ap, ap₂, ◌∙◌}
use mathlib.Core.Bool.{Bool, false}
use mathlib.Core.List.{List, ◌++◌}
use native.Mathlib.Omega.{arith}
use lib.ListN.{length, length-append}
use Rattle.std.specs.Prelude.{Option}
use Rattle.lang.specs.Parts.{silent, written, word_of}
use Rattle.lang.specs.Mark.{Mark}
use Rattle.rules.specs.Numbers.{number_text}
use Rattle.rules.specs.Formulas.{Written, FormulaUnit, plain, labelled, unit_text}
use Rattle.rules.specs.Limits.{max_units, max_count, number_mark, many_mark, unit_marks}
use Rattle.numbers.proofs.SpelledNumbers.{number_past}
use Rattle.faults.specs.declared.Refusal.{Refusal}
use Rattle.faults.specs.Faults.{join, after}
use Rattle.read_formula.specs.Units.{numbers_fault, unit_fault}
use Rattle.faults.proofs.Marks.{join_kept}
use Rattle.read_formula.proofs.Spelled.{capped, unit_span}

-- a bound below a million does not see that a number was cut to a million
pub mark_told : (f : Option Refusal) (bound n at place : ℕ) → bound < 1000000 → at ≡ place → after f (number_mark bound (capped n) at) ≡ after f (number_mark bound n place)
mark_told f bound n at place h e = ap₂ (λ (b : Bool) (p : ℕ). join f (record { place = p; number = 4; broken = b })) (number_past n bound h) e

-- by how many bytes are left where the unit begins
pub unit_told : (end : ℕ) (f : Option Refusal) (u : FormulaUnit Written) (i left : ℕ) → length (unit_text u) ≤ left → left ≤ end
    → unit_fault f (unit_span u) i end left ≡ after f (unit_marks i u (end - left))
unfolding numbers_fault
unit_told end f (plain s silent) i left h g =
    let m : Mark = many_mark max_units i (end - left) in
    join_kept (join (join f m) (record { place = end - (left - 1); number = 4; broken = false })) (record { place = end - (left - length (word_of s)); number = 4; broken = false }) refl
    ∙ join_kept (join f m) (record { place = end - (left - 1); number = 4; broken = false }) refl
unit_told end f (plain s (written c)) i left h g =
    let l = length-append (word_of s) (number_text c) in
    let m : Mark = many_mark max_units i (end - left) in
    ap (λ (e : Option Refusal). after e (number_mark max_count (capped c.value) (end - (left - length (word_of s)))))
    (join_kept (join f m) (record { place = end - (left - 1); number = 4; broken = false }) refl)
    ∙ mark_told (join f m) max_count c.value (end - (left - length (word_of s))) (end - left + length (word_of s)) (omega arith) (omega arith)
unit_told end f (labelled a s c) i left h g =
    let x = length (number_text a) in
    let y = length (word_of s) in
    let l : 1 + x + y ≤ left = labelled_inside in
    let m : Mark = many_mark max_units i (end - left) in
    ap (λ (e : Option Refusal). after e (number_mark max_count (capped c.value) (end - (left - (1 + x + y)))))
    (mark_told (join f m) max_count a.value (end - (left - 1)) (end - left + 1) (omega arith) (omega arith))
    ∙ mark_told (after (join f m) (number_mark max_count a.value (end - left + 1))) max_count c.value (end - (left - (1 + x + y))) (end - left + 1 + x + y) (omega arith) (omega arith)
  where
    labelled_inside : 1 + length (number_text a) + length (word_of s) ≤ left
    labelled_inside = let z = simp length-append at h in omega arith

pub unit_faults : (end : ℕ) (f : Option Refusal) (u : FormulaUnit Written) (k : List ℕ) (i : ℕ) → length (unit_text u ++ k) ≤ end
    → unit_fault f (unit_span u) i end (length (unit_text u ++ k)) ≡ after f (unit_marks i u (end - length (unit_text u ++ k)))
unit_faults end f u k i h = unit_told end f u i (length (unit_text u ++ k)) (omega (arith, length-append (unit_text u) k)) h
