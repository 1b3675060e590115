-- Document 01, "Numbers of refusal", 2: a stray byte stays stray. Reading answers 2 only by a stray byte, and whatever is behind that
-- byte every line is answered the same, in an output of any length; so a mark at the place does not move while a line is typed.
-- Assumes nothing.
use Prim.Native.Nat.{ℕ, ◌+◌, ◌≤◌}
use mathlib.Core.Path.{◌≡◌}
use mathlib.Core.List.{List}
use native.Mathlib.Omega.{arith}
use lib.ListN.{length, take}
use Rattle.lang.specs.Scan.{Stray}
use Rattle.lang.proofs.OneStray.{stray_agrees}
use Rattle.rules.specs.Lines.{Spelling, Shape, stray, short, Judged, fine}
use Rattle.rules.specs.Limits.{max_line}
use Rattle.rules.specs.Editions.{Edition, LineEdition}
use Rattle.rules.specs.Answers.{Answer, refuses, Delivers, no_room, done, ReadsSum, excess, ReadsRules, breach, ReadsForm, foreign, ReadsSpelling, limit, Reads, long, misshapen, spelled}
use Rattle.rules.proofs.OneShape.{misshapen_no_shape, misshapen_one, judged_one}
use Rattle.rules.proofs.FirstBroken.{wins_number}

-- ---- 2 is a stray byte and nothing else

pub delivers_not_two : {room : ℕ} {result : List ℕ} {a : Answer} → Delivers room result a → a.number ≡ 2 → ⊥
delivers_not_two (no_room h) e = omega arith
delivers_not_two (done h) e = omega arith

sum_not_two : {e : Edition} {s : Spelling} {room : ℕ} {a : Answer} → ReadsSum e s room a → a.number ≡ 2 → ⊥
sum_not_two (excess p z) e = omega arith
sum_not_two (ReadsSum.kept z t y d) e = delivers_not_two d e

rules_not_two : {e : Edition} {s : Spelling} {room : ℕ} {a : Answer} → ReadsRules e s room a → a.number ≡ 2 → ⊥
rules_not_two (breach p z) e = omega arith
rules_not_two (ReadsRules.kept z r) e = sum_not_two r e

form_not_two : {e : Edition} {s : Spelling} {room : ℕ} {a : Answer} → ReadsForm e s room a → a.number ≡ 2 → ⊥
form_not_two (foreign p z) e = omega arith
form_not_two (ReadsForm.kept z r) e = rules_not_two r e

spelling_not_two : {d : Edition} (s : Spelling) {room : ℕ} {a : Answer} → ReadsSpelling d s room a → a.number ≡ 2 → ⊥
spelling_not_two s (limit m w) e = omega (arith, wins_number s m w)
spelling_not_two s (ReadsSpelling.kept k r) e = form_not_two r e

pub two_is_stray : {l : LineEdition} {line : List ℕ} {room : ℕ} {a : Answer} → Reads l line room a → a.number ≡ 2 → Stray (Shape l) line a.place
two_is_stray (long h) e = absurd (omega arith)
two_is_stray (misshapen h (stray k s)) e = s
two_is_stray (misshapen h (short b n)) e = absurd (omega arith)
two_is_stray (spelled h s w q r) e = absurd (spelling_not_two s r e)

-- ---- and stays one

-- by the stray byte every answer is this one
stray_refused : {l : LineEdition} {line : List ℕ} {room k : ℕ} {a : Answer} → length line ≤ max_line → Stray (Shape l) line k → Reads l line room a → a ≡ refuses room 2 k
stray_refused n s (long h) = absurd (omega arith)
stray_refused {k = k} n s (misshapen h x) = let q = misshapen_one x (stray k s) in rw (q.0, q.1)
stray_refused {l} {k = k} n s (spelled h u w q r) = absurd (misshapen_no_shape {l = l} (stray k s) (u, (w, q)))

still_stray : {l : LineEdition} {line other : List ℕ} {room : ℕ} {a : Answer} → Reads l line room a → a.number ≡ 2
    → take (a.place + 1) other ≡ take (a.place + 1) line → Stray (Shape l) other a.place
still_stray {l} r e agrees = stray_agrees (Shape l) agrees (two_is_stray r e)

-- there is such an answer
pub stray_answered : {l : LineEdition} {line other : List ℕ} {room room' : ℕ} {a : Answer} → Reads l line room a → a.number ≡ 2 → length other ≤ max_line
    → take (a.place + 1) other ≡ take (a.place + 1) line → Reads l other room' (refuses room' 2 a.place)
stray_answered {a = a} r e small agrees = misshapen small (stray a.place (still_stray r e agrees))

-- and every answer is this one
pub stray_stays : {l : LineEdition} {line other : List ℕ} {room room' : ℕ} {a b : Answer} → Reads l line room a → a.number ≡ 2 → length other ≤ max_line
    → take (a.place + 1) other ≡ take (a.place + 1) line → Reads l other room' b → b ≡ refuses room' 2 a.place
stray_stays r e small agrees x = stray_refused small (still_stray r e agrees) x

-- ---- of the shape alone, of lines of any length

judged_stray : {l : LineEdition} {line : List ℕ} {n k : ℕ} → Judged l line n k → n ≡ 2 → Stray (Shape l) line k
judged_stray (fine x) e = absurd (omega arith)
judged_stray (Judged.misshapen (stray k s)) e = s
judged_stray (Judged.misshapen (short b n)) e = absurd (omega arith)

pub judged_stays : {l : LineEdition} {line other : List ℕ} {m n j k : ℕ} → Judged l line m j → m ≡ 2 → take (j + 1) other ≡ take (j + 1) line → Judged l other n k
    → (n ≡ 2) × (k ≡ j)
judged_stays {l} {j = j} x e agrees y = judged_one y (Judged.misshapen (stray j (stray_agrees (Shape l) agrees (judged_stray x e))))
