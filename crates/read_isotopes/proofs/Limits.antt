-- The limits of a spelled isotope, as they are found where it is read. Assumes nothing.
use Prim.Native.Nat.{ℕ, ◌+◌, ◌-◌, ◌≤◌}
use mathlib.Core.Path.{◌≡◌, refl, sym, ap, ◌∙◌}
use mathlib.Core.Bool.{false}
use mathlib.Core.List.{[], ◌++◌}
use native.Mathlib.Omega.{arith}
use lib.ListN.{length, length-append}
use Rattle.std.specs.Prelude.{Option}
use Rattle.lang.specs.Parts.{silent, written, word_of}
use Rattle.rules.specs.Numbers.{number_text}
use Rattle.rules.specs.Formulas.{Written}
use Rattle.rules.specs.Losses.{sign_text}
use Rattle.rules.specs.Isotopes.{Shift, shift_text, Specific, specific_text}
use Rattle.rules.specs.Limits.{max_isotopes, max_count, number_mark, many_mark, opt_part, number_part, shift_marks, specific_marks}
use Rattle.faults.specs.declared.Refusal.{Refusal}
use Rattle.faults.specs.Faults.{join, after}
use Rattle.faults.proofs.Marks.{join_kept, after_append}
use Rattle.read_formula.proofs.Spelled.{capped}
use Rattle.read_formula.proofs.Limits.{mark_told}
use Rattle.read_opening.proofs.SpelledOpenings.{count_told, sign_long}
use Rattle.read_formula.specs.Units.{numbers_fault}
use Rattle.read_isotopes.proofs.Spelled.{shift_long, shift_fault}

-- a silent count has no limit, and 1 breaks none
count_told_lem : (f : Option Refusal) (x : Shift Written) (place at : ℕ) → place ≡ at + 1 → after f (number_mark max_count (count_told x.count) place) ≡ after f (shift_marks x at)
count_told_lem f x place at p = by x.count
  where
    by : (c : Written) → after f (number_mark max_count (count_told c) place) ≡ after f ((opt_part (number_part max_count) c).marks (at + length (sign_text x.sign)) ++ [])
    by silent = join_kept f (record { place = place; number = 4; broken = false }) refl
    by (written n) = mark_told f max_count n.value place (at + length (sign_text x.sign)) (omega arith) (omega (arith, sign_long x.sign))

-- by how many bytes are left where the isotope begins
fault_told : (end : ℕ) (f : Option Refusal) (x : Shift Written) (nucleons i left : ℕ) → 1 ≤ left → left ≤ end
    → shift_fault i x nucleons end left f
    ≡ after (after (join f (many_mark max_isotopes i (end - left))) (shift_marks x (end - left))) (number_mark max_count nucleons (end - (left - length (shift_text x))))
unfolding numbers_fault
fault_told end f x nucleons i left h g =
    ap (λ (e : Option Refusal). after e (number_mark max_count nucleons (end - (left - length (shift_text x)))))
    (count_told_lem (join f (many_mark max_isotopes i (end - left))) x (end - (left - 1)) (end - left) (omega arith))

-- the first isotope is not too many, and no nucleon number breaks no limit
pub shift_told : (end : ℕ) (f : Option Refusal) (x : Shift Written) (left : ℕ) → length (shift_text x) ≤ left → left ≤ end → shift_fault 0 x 0 end left f ≡ after f (shift_marks x (end - left))
shift_told end f x left h g =
    let m = many_mark max_isotopes 0 (end - left) in
    fault_told end f x 0 0 left (omega (arith, shift_long x)) g
    ∙ join_kept (after (join f m) (shift_marks x (end - left))) (record { place = end - (left - length (shift_text x)); number = 4; broken = false }) refl
    ∙ ap (λ (e : Option Refusal). after e (shift_marks x (end - left))) (join_kept f m refl)

pub specific_told : (end : ℕ) (f : Option Refusal) (x : Specific Written) (i left : ℕ) → length (specific_text x) ≤ left → left ≤ end
    → shift_fault i x.shift (capped x.nucleons.value) end left f ≡ after f (specific_marks i x (end - left))
specific_told end f x i left h g =
    let n = length (shift_text x.shift) in
    let a = length-append (shift_text x.shift) (number_text x.nucleons ++ word_of x.symbol) in
    let b = shift_long x.shift in
    let e = join f (many_mark max_isotopes i (end - left)) in
    let ms = shift_marks x.shift (end - left) in
    fault_told end f x.shift (capped x.nucleons.value) i left (omega arith) g
    ∙ mark_told (after e ms) max_count x.nucleons.value (end - (left - n)) (end - left + n) (omega arith) (omega arith)
    ∙ sym (after_append e ms (number_mark max_count x.nucleons.value (end - left + n)))
