-- Lines that are refused: without a shape, or with confidences that sum to more than 1. Assumes nothing.
use Prim.Native.Nat.{ℕ, ◌≤◌}
use Prim.Native.String.{String}
use mathlib.Core.Path.{◌≡◌, refl, sym, subst}
use mathlib.Core.Bool.{Bool}
use mathlib.Core.List.{List}
use native.Mathlib.Omega.{arith}
use lib.Dec.{T, ltb, ltb→lt}
use lib.ListN.{length, get_or}
use Rattle.lang.specs.Parts.{silent, written}
use Rattle.lang.proofs.Machine.{all_b, all→}
use Rattle.rules.specs.Bytes.{bytes}
use Rattle.rules.specs.Lines.{Spelling, all_unlettered, Judged}
use Rattle.rules.specs.Limits.{max_line, line_marks}
use Rattle.rules.specs.Editions.{LineEdition, first_lines, second_lines, current}
use Rattle.rules.specs.House.{first_foreign}
use Rattle.rules.specs.Answers.{refuses, ReadsSum, ReadsRules, ReadsForm, ReadsSpelling, Reads}
use Rattle.rules.proofs.OneShape.{judged_misshapen}
use Rattle.rules.proofs.worked.Bounds.{Ruled}
use Rattle.scan_line.specs.declared.Verdict.{Verdict}
use Rattle.scan_line.specs.Verdicts.{number_of, place_of}
use Rattle.shape.proofs.Unambiguous.{reads_one}
use Rattle.starred.specs.Becomes.{RefusedAs}
use Rattle.starred.proofs.Judge.{judge, judge_right}
use Rattle.starred.proofs.Only.{only}
use Rattle.starred.proofs.Worked.{none_broken, in_each}

-- one refusal that the rules say is the only answer
refused_only : (line : String) (number place : ℕ) → ((l : LineEdition) (room : ℕ) → Reads l (bytes line) room (refuses room number place)) → RefusedAs line number place
refused_only line number place r l room =
    only (Reads l (bytes line) room) (λ a. a ≡ refuses room number place) (λ a b. reads_one)
    (λ a e. subst (Reads l (bytes line) room) (sym e) (r l room)) (refuses room number place) refl

abbrev byte_at : List ℕ → ℕ → Bool
byte_at line i = ltb (get_or line i 0) 256

judge_each : (line : List ℕ) (v : Verdict) → judge first_lines line ≡ v → judge second_lines line ≡ v → (l : LineEdition) → judge l line ≡ v
judge_each line v x y first_lines = x
judge_each line v x y second_lines = y

pub no_shape : (line : String) (v : Verdict) → T (all_b (byte_at (bytes line)) (length (bytes line))) → length (bytes line) ≤ max_line
    → judge first_lines (bytes line) ≡ v → judge second_lines (bytes line) ≡ v → (number_of v ≡ 0 → ⊥) → RefusedAs line (number_of v) (place_of (bytes line) v)
no_shape line v all h x y n =
    refused_only line (number_of v) (place_of (bytes line) v)
    (λ l room.
    let j = judge_right l (bytes line) (λ i k. ltb→lt (get_or (bytes line) i 0) 256 (all→ (byte_at (bytes line)) (length (bytes line)) all i k)) (omega arith) in
    let k = subst (λ (u : Verdict). Judged l (bytes line) (number_of u) (place_of (bytes line) u)) (judge_each (bytes line) v x y l) j in
    Reads.misshapen h (judged_misshapen k n))

pub past_one : {line : String} {s : Spelling} {place : ℕ} → Ruled line s silent (written place) → T (all_unlettered s) → first_foreign current 0 s ≡ silent
    → length (bytes line) ≤ max_line → RefusedAs line 7 place
past_one {line} {s} {place} w u f h =
    let k = none_broken (line_marks s) w.limits in
    refused_only line 7 place
    (λ l room. Reads.spelled h s (in_each s u l) w.text (ReadsSpelling.kept k (ReadsForm.kept f (ReadsRules.kept w.breach (ReadsSum.excess place w.excess)))))
