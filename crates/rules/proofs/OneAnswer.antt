-- Document 01, "Numbers of refusal": reading has one answer, if a line has one spelling. Two answers that the rules allow for one
-- line and one output length are equal, in number, place, length and every byte. Assumes nothing.
use Prim.Native.Nat.{ℕ}
use mathlib.Core.Path.{◌≡◌, refl, sym, ap, ap₂, ◌∙◌, subst}
use mathlib.Core.List.{List}
use native.Mathlib.Omega.{arith}
use Rattle.lang.specs.Parts.{Opt, silent, written}
use Rattle.lang.proofs.Winner.{wins_one, wins_not_kept}
use Rattle.rules.specs.Lines.{Spelling, line_text}
use Rattle.rules.specs.Fields.{Table}
use Rattle.rules.specs.Stored.{stored}
use Rattle.rules.specs.Answers.{Answer, refuses, Delivers, no_room, done, ReadsSum, excess, ReadsRules, breach, ReadsForm, foreign, ReadsSpelling, limit, Reads, long, misshapen, spelled}
use Rattle.rules.specs.Editions.{Edition, current, LineEdition}
use Rattle.rules.proofs.OneShape.{misshapen_no_shape, misshapen_one}
use Rattle.rules.proofs.OneTable.{one_table}

-- what is left out is not there, and one thing is there
abbrev place_or : ℕ → Opt ℕ → ℕ
place_or d silent = d
place_or d (written n) = n

abbrev There : Opt ℕ → Type 0
There silent = ⊥
There (written n) = Unit {0}

written_one : {m n : ℕ} (o : Opt ℕ) → o ≡ written m → o ≡ written n → m ≡ n
written_one {m} {n} o p q = ap (place_or m) (sym p ∙ q)

pub written_not_silent : {m : ℕ} (o : Opt ℕ) → o ≡ written m → o ≡ silent → ⊥
written_not_silent o p q = subst There (sym p ∙ q) tt

pub delivers_one : {room : ℕ} {result : List ℕ} {a b : Answer} → Delivers room result a → Delivers room result b → a ≡ b
delivers_one (no_room h) (no_room g) = refl
delivers_one (no_room h) (done g) = absurd (omega arith)
delivers_one (done h) (no_room g) = absurd (omega arith)
delivers_one (done h) (done g) = refl

module _ (one_spelling : (s u : Spelling) → line_text s ≡ line_text u → s ≡ u) where
  sum_one : {edition : Edition} {s : Spelling} {room : ℕ} {a b : Answer} → ReadsSum edition s room a → ReadsSum edition s room b → a ≡ b
  sum_one {room = room} (excess j p) (excess k q) = ap (refuses room 7) (written_one _ p q)
  sum_one (excess j p) (ReadsSum.kept q t e d) = absurd (written_not_silent _ p q)
  sum_one (ReadsSum.kept p t e d) (excess k q) = absurd (written_not_silent _ q p)
  sum_one {edition} {room = room} {b = b} (ReadsSum.kept p t e d) (ReadsSum.kept q u f c) =
      delivers_one d (subst (λ (x : Table). Delivers room (stored edition x) b) (one_table one_spelling f e) c)

  rules_one : {e : Edition} {s : Spelling} {room : ℕ} {a b : Answer} → ReadsRules e s room a → ReadsRules e s room b → a ≡ b
  rules_one {room = room} (breach j p) (breach k q) = ap (refuses room 6) (written_one _ p q)
  rules_one (breach j p) (ReadsRules.kept q y) = absurd (written_not_silent _ p q)
  rules_one (ReadsRules.kept p x) (breach k q) = absurd (written_not_silent _ q p)
  rules_one (ReadsRules.kept p x) (ReadsRules.kept q y) = sum_one x y

  pub form_one : {e : Edition} {s : Spelling} {room : ℕ} {a b : Answer} → ReadsForm e s room a → ReadsForm e s room b → a ≡ b
  form_one {room = room} (foreign j p) (foreign k q) = ap (refuses room 11) (written_one _ p q)
  form_one (foreign j p) (ReadsForm.kept q y) = absurd (written_not_silent _ p q)
  form_one (ReadsForm.kept p x) (foreign k q) = absurd (written_not_silent _ q p)
  form_one (ReadsForm.kept p x) (ReadsForm.kept q y) = rules_one x y

  spelling_one : {e : Edition} {s : Spelling} {room : ℕ} {a b : Answer} → ReadsSpelling e s room a → ReadsSpelling e s room b → a ≡ b
  spelling_one {room = room} (limit m w) (limit n v) = let e = wins_one w v in ap₂ (refuses room) e.1 e.0
  spelling_one (limit m w) (ReadsSpelling.kept k y) = absurd (wins_not_kept w k)
  spelling_one (ReadsSpelling.kept k x) (limit n v) = absurd (wins_not_kept v k)
  spelling_one (ReadsSpelling.kept k x) (ReadsSpelling.kept l y) = form_one x y

  pub reads_one : {l : LineEdition} {line : List ℕ} {room : ℕ} {a b : Answer} → Reads l line room a → Reads l line room b → a ≡ b
  reads_one (long h) (long g) = refl
  reads_one (long h) (misshapen g y) = absurd (omega arith)
  reads_one (long h) (spelled g u v f y) = absurd (omega arith)
  reads_one (misshapen h x) (long g) = absurd (omega arith)
  reads_one {room = room} (misshapen h x) (misshapen g y) = let e = misshapen_one x y in ap₂ (refuses room) e.0 e.1
  reads_one (misshapen h x) (spelled g u v f y) = absurd (misshapen_no_shape x (u, (v, f)))
  reads_one (spelled h s w e x) (long g) = absurd (omega arith)
  reads_one (spelled h s w e x) (misshapen g y) = absurd (misshapen_no_shape y (s, (w, e)))
  reads_one {room = room} {b = b} (spelled h s w e x) (spelled g u v f y) =
      spelling_one x (subst (λ (z : Spelling). ReadsSpelling current z room b) (one_spelling u s (f ∙ sym e)) y)
