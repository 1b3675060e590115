-- The place of a refusal lies in the line or at its end, and the bytes that a table needs are few. Assumes nothing.
use Prim.Native.Nat.{ℕ, ◌+◌, ◌≤◌, ◌<◌}
use mathlib.Core.Path.{◌≡◌, refl, ap}
use mathlib.Core.Bool.{Bool, true, false}
use mathlib.Core.List.{List, [], ◌∷◌, ◌++◌}
use native.Mathlib.Omega.{arith}
use lib.Dec.{leb}
use lib.ListN.{length, length-append}
use Rattle.lang.specs.Parts.{Opt, silent, written, flat}
use Rattle.lang.specs.Mark.{Kept}
use Rattle.rules.specs.Annotations.{SpelledAnnotation, annotation_text}
use Rattle.rules.specs.Lines.{Spelling, next_text, line_text, stray, short}
use Rattle.rules.specs.Fields.{Table}
use Rattle.rules.specs.Limits.{line_marks}
use Rattle.rules.specs.Largest.{max_any_table}
use Rattle.rules.specs.House.{formed, annotation_rules, share, one, first_failing, first_foreign, first_breach, first_excess}
use Rattle.rules.specs.Stored.{stored, header, stores, body}
use Rattle.rules.specs.Answers.{Answer, Delivers, no_room, done, Sound, ReadsSum, excess, ReadsRules, breach, ReadsForm, foreign, ReadsSpelling, limit, Reads, long, misshapen, spelled}
use Rattle.rules.specs.Editions.{LineEdition, current}
use Rattle.rules.proofs.OneAnswer.{written_not_silent}
use Rattle.rules.proofs.Rises.{line_rises}
use Rattle.rules.proofs.Sizes.{sizes_fit}

-- ---- rules for one annotation, and the sum

abbrev place_or0 : Opt ℕ → ℕ
place_or0 silent = 0
place_or0 (written p) = p

pub failing_within : (test : SpelledAnnotation → Bool) (at : ℕ) (s : Spelling) (p : ℕ) → first_failing test at s ≡ written p → p < at + length (flat next_text s)
failing_within test at [] p e = absurd (written_not_silent silent e refl)
failing_within test at (a ∷ more) p e = by (λ q. failing_within test (at + length (annotation_text a) + 1) more p q) (test a) e
  where
    by : (first_failing test (at + length (annotation_text a) + 1) more ≡ written p → p < at + length (annotation_text a) + 1 + length (flat next_text more))
        → (t : Bool) → elim t [ true ↦ first_failing test (at + length (annotation_text a) + 1) more | false ↦ written at ] ≡ written p
        → p < at + length (next_text a ++ flat next_text more)
    by ih true q = omega (arith, ih q, length-append (next_text a) (flat next_text more))
    by ih false q = omega (arith, ap place_or0 q, length-append (next_text a) (flat next_text more))

excess_within : (sum at : ℕ) (s : Spelling) (p : ℕ) → first_excess sum at s ≡ written p → p < at + length (flat next_text s)
excess_within sum at [] p e = absurd (written_not_silent silent e refl)
excess_within sum at (a ∷ more) p e =
    by (λ q. excess_within (sum + share a) (at + length (annotation_text a) + 1) more p q) (leb (sum + share a) one) e
  where
    by : (first_excess (sum + share a) (at + length (annotation_text a) + 1) more ≡ written p → p < at + length (annotation_text a) + 1 + length (flat next_text more))
        → (t : Bool)
        → elim t [ true ↦ first_excess (sum + share a) (at + length (annotation_text a) + 1) more | false ↦ written at ] ≡ written p
        → p < at + length (next_text a ++ flat next_text more)
    by ih true q = omega (arith, ih q, length-append (next_text a) (flat next_text more))
    by ih false q = omega (arith, ap place_or0 q, length-append (next_text a) (flat next_text more))

-- the commas behind the annotations are as many as those before, and one
pub line_length : (s : Spelling) → length (flat next_text s) ≤ length (line_text s) + 1
line_length [] = omega arith
line_length (a ∷ more) = omega (arith, length-append (next_text a) (flat next_text more), length-append (annotation_text a) (flat next_text more))

-- ---- answers

delivered_place : {t : Table} {room : ℕ} {a : Answer} → Sound current t → Delivers room (stored current t) a → a.place ≤ max_any_table
delivered_place {t = t} w (no_room h) = sizes_fit current t w
delivered_place w (done h) = omega arith

module _ (s : Spelling) (room : ℕ) where
  sum_place : Kept (line_marks s) → first_foreign current 0 s ≡ silent → first_breach current 0 s ≡ silent → {a : Answer} → ReadsSum current s room a → a.place ≤ length (line_text s) + max_any_table
  sum_place k f b (excess p z) = omega (arith, excess_within 0 0 s p z, line_length s)
  sum_place k f b (ReadsSum.kept z t y d) =
      let w : Sound current t = record { spelling = s; edition = tt; says = y; limits = k; form = f; rules = b; sum = z } in
      omega (arith, delivered_place w d)

  rules_place : Kept (line_marks s) → first_foreign current 0 s ≡ silent → {a : Answer} → ReadsRules current s room a → a.place ≤ length (line_text s) + max_any_table
  rules_place k f (breach p z) = omega (arith, failing_within (annotation_rules current) 0 s p z, line_length s)
  rules_place k f (ReadsRules.kept z r) = sum_place k f z r

  pub form_place : Kept (line_marks s) → {a : Answer} → ReadsForm current s room a → a.place ≤ length (line_text s) + max_any_table
  form_place k (foreign p z) = omega (arith, failing_within (λ a. formed current a.ion) 0 s p z, line_length s)
  form_place k (ReadsForm.kept z r) = rules_place k z r

  spelling_place : {a : Answer} → ReadsSpelling current s room a → a.place ≤ length (line_text s) + max_any_table
  spelling_place (limit m w) = omega (arith, ((line_rises s).within m w.is_in w.broken).below)
  spelling_place (ReadsSpelling.kept k r) = form_place k r

pub reads_place : {l : LineEdition} {line : List ℕ} {room : ℕ} {a : Answer} → Reads l line room a → a.place ≤ length line + max_any_table
reads_place (long h) = omega arith
reads_place (misshapen h (stray k s)) = omega (arith, s.inside)
reads_place (misshapen h (short b n)) = omega arith
reads_place {room = room} (spelled h s w e r) = omega (arith, spelling_place s room r, ap length e)

-- ---- what was read is in the output, and is not nothing

pub stored_some : (t : Table) → 0 < length (stored current t)
stored_some t = omega (arith, length-append (stores (header current t)) (body current t))

pub record Filled (room : ℕ) (a : Answer) : Type 0 where
  pub some : 0 < a.size
  pub inside : a.size ≤ room

pub delivered_fills : (t : Table) {room : ℕ} {a : Answer} → Delivers room (stored current t) a → a.number ≡ 0 → Filled room a
delivered_fills t (no_room h) e = absurd (omega arith)
delivered_fills t (done h) e = record { some = stored_some t; inside = h }

-- 0 is a table
sum_fills : {s : Spelling} {room : ℕ} {a : Answer} → ReadsSum current s room a → a.number ≡ 0 → Filled room a
sum_fills (excess p z) e = absurd (omega arith)
sum_fills (ReadsSum.kept z t y d) e = delivered_fills t d e

rules_fill : {s : Spelling} {room : ℕ} {a : Answer} → ReadsRules current s room a → a.number ≡ 0 → Filled room a
rules_fill (breach p z) e = absurd (omega arith)
rules_fill (ReadsRules.kept z r) e = sum_fills r e

pub form_fills : {s : Spelling} {room : ℕ} {a : Answer} → ReadsForm current s room a → a.number ≡ 0 → Filled room a
form_fills (foreign p z) e = absurd (omega arith)
form_fills (ReadsForm.kept z r) e = rules_fill r e

spelling_fills : (s : Spelling) {room : ℕ} {a : Answer} → ReadsSpelling current s room a → a.number ≡ 0 → Filled room a
spelling_fills s (limit m w) e = absurd (omega (arith, ((line_rises s).within m w.is_in w.broken).least))
spelling_fills s (ReadsSpelling.kept k r) e = form_fills r e

pub reads_fill : {l : LineEdition} {line : List ℕ} {room : ℕ} {a : Answer} → Reads l line room a → a.number ≡ 0 → Filled room a
reads_fill (long h) e = absurd (omega arith)
reads_fill (misshapen h (stray k s)) e = absurd (omega arith)
reads_fill (misshapen h (short b n)) e = absurd (omega arith)
reads_fill (spelled h s w q r) e = spelling_fills s r e
