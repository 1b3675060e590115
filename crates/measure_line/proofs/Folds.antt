-- The first annotation that fails a test, and the first that takes the sum of confidences past 1, found one annotation after the other. What
-- is said of the first is said of any test and number, and then of the form of sequences (11) and of the rules (6). Assumes nothing.
use Prim.Native.Nat.{ℕ, ◌+◌, ◌<◌, ◌≤◌, min}
use mathlib.Core.Path.{◌≡◌, refl, ap, ap₂, ◌∙◌}
use mathlib.Core.Bool.{Bool, true, false, not}
use mathlib.Core.List.{[], ◌∷◌}
use native.Mathlib.Omega.{arith}
use lib.Dec.{leb}
use lib.ListN.{length}
use borrow.Author.Tests.{leb-true, leb-false, lt-leb}
use Rattle.std.specs.Prelude.{Option, Some, None}
use Rattle.lang.specs.Parts.{Opt, silent, written}
use Rattle.rules.specs.Annotations.{SpelledAnnotation, annotation_text}
use Rattle.rules.specs.Lines.{Spelling}
use Rattle.rules.specs.Editions.{Edition}
use Rattle.rules.specs.House.{formed, annotation_rules, share, one, first_failing, first_foreign, first_breach, first_excess}
use Rattle.numbers.specs.Shares.{largest}
use Rattle.faults.specs.declared.Refusal.{Refusal}
use Rattle.faults.specs.Refusals.{why_of, refusal, refused_by}
use Rattle.faults.proofs.Marks.{join_known, join_kept, join_broken}
use Rattle.measure_line.specs.Totals.{noted, summed}

-- where the next annotation begins
abbrev pub behind : ℕ → SpelledAnnotation → ℕ
behind at a = at + length (annotation_text a) + 1

-- noted by a number where a test fails
abbrev pub fold_failing : (SpelledAnnotation → Bool) → ℕ → Option Refusal → ℕ → Spelling → Option Refusal
fold_failing test number f at [] = f
fold_failing test number f at (a ∷ more) = fold_failing test number (noted f number at (test a)) (behind at a) more

abbrev pub fold_form : Edition → Option Refusal → ℕ → Spelling → Option Refusal
fold_form e f at s = fold_failing (λ a. formed e a.ion) 11 f at s

abbrev pub fold_breach : Edition → Option Refusal → ℕ → Spelling → Option Refusal
fold_breach e f at s = fold_failing (annotation_rules e) 6 f at s

-- a confidence as it is told
abbrev pub share_in : SpelledAnnotation → ℕ
share_in a = min (share a) largest

abbrev pub fold_excess : Option Refusal → ℕ → ℕ → Spelling → Option Refusal
fold_excess f sum at [] = f
fold_excess f sum at (a ∷ more) =
    fold_excess (noted f 7 at (leb (summed sum (share_in a)) one)) (summed sum (share_in a)) (behind at a) more

-- ---- what was found stays

kept_known : (r : Refusal) (number place : ℕ) (kept : Bool) → noted (Some r) number place kept ≡ Some r
kept_known r number place kept = join_known r (record { place = place; number = number; broken = not kept })

failing_known : (test : SpelledAnnotation → Bool) (number : ℕ) (r : Refusal) (at : ℕ) (s : Spelling) → fold_failing test number (Some r) at s ≡ Some r
failing_known test number r at [] = refl
failing_known test number r at (a ∷ more) =
    ap (λ (g : Option Refusal). fold_failing test number g (behind at a) more) (kept_known r number at (test a)) ∙ failing_known test number r (behind at a) more

excess_known : (r : Refusal) (sum at : ℕ) (s : Spelling) → fold_excess (Some r) sum at s ≡ Some r
excess_known r sum at [] = refl
excess_known r sum at (a ∷ more) =
    let next = summed sum (share_in a) in
    ap (λ (g : Option Refusal). fold_excess g next (behind at a) more) (kept_known r 7 at (leb next one)) ∙ excess_known r next (behind at a) more

-- ---- what is found is what the rules report

-- none, or a number with its place
abbrev pub told : ℕ → Opt ℕ → Option Refusal
told number silent = None
told number (written place) = refused_by number place

note_kept : (number place : ℕ) → noted None number place true ≡ None
note_kept number place = join_kept None (record { place = place; number = number; broken = false }) refl

note_broken : (number place : ℕ) → noted None number place false ≡ refused_by number place
note_broken number place = join_broken (record { place = place; number = number; broken = true }) refl

failing_told : (test : SpelledAnnotation → Bool) (number at : ℕ) (s : Spelling)
    → fold_failing test number None at s ≡ told number (first_failing test at s)
failing_told test number at [] = refl
failing_told test number at (a ∷ more) = by (failing_told test number (behind at a) more) (test a)
  where
    by : fold_failing test number None (behind at a) more ≡ told number (first_failing test (behind at a) more) → (t : Bool)
        → fold_failing test number (noted None number at t) (behind at a) more
        ≡ told number (elim t [ true ↦ first_failing test (behind at a) more | false ↦ written at ])
    by ih true = ap (λ (g : Option Refusal). fold_failing test number g (behind at a) more) (note_kept number at) ∙ ih
    by ih false =
        ap (λ (g : Option Refusal). fold_failing test number g (behind at a) more) (note_broken number at)
        ∙ failing_known test number (refusal (why_of number) at) (behind at a) more

pub form_told : (e : Edition) (at : ℕ) (s : Spelling) → fold_form e None at s ≡ told 11 (first_foreign e at s)
form_told e at s = failing_told (λ (a : SpelledAnnotation). formed e a.ion) 11 at s

pub breach_told : (e : Edition) (at : ℕ) (s : Spelling) → fold_breach e None at s ≡ told 6 (first_breach e at s)
breach_told e at s = failing_told (annotation_rules e) 6 at s

-- a sum that is not past 1 was told as it is
sum_within : (sum c : ℕ) → sum + c ≤ one → summed sum (min c largest) ≡ sum + c
sum_within sum c h = omega arith

sum_past : (sum c : ℕ) → one < sum + c → one < summed sum (min c largest)
sum_past sum c h = omega arith

pub excess_seen : (sum at : ℕ) (s : Spelling) → fold_excess None sum at s ≡ told 7 (first_excess sum at s)
excess_seen sum at [] = refl
excess_seen sum at (a ∷ more) =
    let c = share a in
    by c (summed sum (share_in a)) (excess_seen (sum + c) (behind at a) more) (leb (sum + c) one) refl (sum_within sum c) (sum_past sum c)
  where
    by : (c next : ℕ) → fold_excess None (sum + c) (behind at a) more ≡ told 7 (first_excess (sum + c) (behind at a) more)
        → (t : Bool) → leb (sum + c) one ≡ t → (sum + c ≤ one → next ≡ sum + c) → (one < sum + c → one < next)
        → fold_excess (noted None 7 at (leb next one)) next (behind at a) more
        ≡ told 7 (elim t [ true ↦ first_excess (sum + c) (behind at a) more | false ↦ written at ])
    by c next ih true e within past =
        let w = within (leb-true (sum + c) one e) in
        ap₂ (λ (x : Option Refusal) (y : ℕ). fold_excess x y (behind at a) more)
        (ap (noted None 7 at) (ap (λ (n : ℕ). leb n one) w ∙ e) ∙ note_kept 7 at) w ∙ ih
    by c next ih false e within past =
        let w = past (leb-false (sum + c) one e) in
        ap (λ (x : Option Refusal). fold_excess x next (behind at a) more) (ap (noted None 7 at) (lt-leb next one w) ∙ note_broken 7 at)
        ∙ excess_known (refusal (why_of 7) at) next (behind at a) more
