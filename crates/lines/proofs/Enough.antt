-- An output as long as a table may be is never too short. Assumes nothing.
use Prim.Native.Nat.{ℕ, ◌≤◌}
use mathlib.Core.Path.{◌≡◌, ap}
use mathlib.Core.List.{List}
use native.Mathlib.Omega.{arith}
use lib.ListN.{length}
use Rattle.lang.specs.Parts.{silent}
use Rattle.lang.specs.Mark.{Kept}
use Rattle.rules.specs.Lines.{Spelling, line_text, Misshapen}
use Rattle.rules.specs.Limits.{max_line, line_marks}
use Rattle.rules.specs.Editions.{current, LineEdition}
use Rattle.rules.specs.House.{first_foreign, first_breach}
use Rattle.rules.specs.Answers.{Answer, Delivers, no_room, done, Reads, ReadsSpelling, ReadsForm, ReadsRules, ReadsSum}
use Rattle.rules.specs.Largest.{max_table}
use Rattle.rules.proofs.Rises.{line_rises}
use Rattle.lines.proofs.Small.{table_small}

pub delivers_enough : {room : ℕ} {w : List ℕ} {a : Answer} → Delivers room w a → length w ≤ room → a.number ≡ 8 → ⊥
delivers_enough (no_room h) g e = omega arith
delivers_enough (done h) g e = omega arith

-- ---- a table

module _ (s : Spelling) (room : ℕ) (short : length (line_text s) ≤ max_line) (enough : max_table ≤ room) where
  sum_enough : Kept (line_marks s) → first_foreign current 0 s ≡ silent → first_breach current 0 s ≡ silent → {a : Answer} → ReadsSum current s room a → a.number ≡ 8 → ⊥
  sum_enough k f r (ReadsSum.excess p z) e = omega arith
  sum_enough k f r (ReadsSum.kept z t y d) e =
      let small = table_small y {e = current} (record { spelling = s; edition = tt; says = y; limits = k; form = f; rules = r; sum = z }) short in
      delivers_enough d (omega arith) e

  rules_enough : Kept (line_marks s) → first_foreign current 0 s ≡ silent → {a : Answer} → ReadsRules current s room a → a.number ≡ 8 → ⊥
  rules_enough k f (ReadsRules.breach p z) e = omega arith
  rules_enough k f (ReadsRules.kept z r) e = sum_enough k f z r e

  form_enough : Kept (line_marks s) → {a : Answer} → ReadsForm current s room a → a.number ≡ 8 → ⊥
  form_enough k (ReadsForm.foreign p z) e = omega arith
  form_enough k (ReadsForm.kept z r) e = rules_enough k z r e

  -- the number of a limit is 5 at most
  spelling_enough : {a : Answer} → ReadsSpelling current s room a → a.number ≡ 8 → ⊥
  spelling_enough (ReadsSpelling.limit m w) e = omega (arith, ((line_rises s).within m w.is_in w.broken).number)
  spelling_enough (ReadsSpelling.kept k r) e = form_enough k r e

misshapen_enough : {l : LineEdition} {line : List ℕ} {n p : ℕ} → Misshapen l line n p → n ≡ 8 → ⊥
misshapen_enough (Misshapen.stray p x) e = omega arith
misshapen_enough (Misshapen.short x y) e = omega arith

pub read_enough : {l : LineEdition} (line : List ℕ) {room : ℕ} {a : Answer} → Reads l line room a → max_table ≤ room → a.number ≡ 8 → ⊥
read_enough line (Reads.long h) g e = omega arith
read_enough line (Reads.misshapen h x) g e = misshapen_enough x e
read_enough line {room} (Reads.spelled h s i q r) g e = spelling_enough s room (omega (arith, ap length q)) g r e
