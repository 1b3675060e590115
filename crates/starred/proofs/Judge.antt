-- The verdict on the shape of a line, in an edition of lines, walked by the rows of the machine: they compute where its bytes, 18,688 of them, are too many.
-- Assumes nothing.
use Prim.Native.Nat.{ℕ, suc, ◌+◌, ◌<◌, ◌≤◌, ◌^◌}
use mathlib.Core.Path.{◌≡◌, refl, sym, ap, ◌∙◌, subst}
use mathlib.Core.Bool.{Bool, true, false, cond}
use mathlib.Core.List.{List, [], ◌∷◌}
use native.Mathlib.Omega.{arith}
use native.Mathlib.Decide.{dec_le}
use lib.Dec.{ltb}
use lib.ListN.{length, get_or}
use borrow.Author.Tests.{lt-ltb, le-ltb}
use Rattle.lang.proofs.Certify.{Tables, accepting}
use Rattle.lang.proofs.Deep.{move}
use Rattle.rules.specs.Editions.{LineEdition}
use Rattle.shape.specs.Tables.{states}
use Rattle.scan_line.specs.declared.Verdict.{Verdict}
use Rattle.scan_line.specs.declared.Verdict.TheVariants.{Fine, Short, Stray}
use Rattle.scan_line.specs.Steps.{machine_bytes, move_by, standing, run_by, verdict_by, scanned_by}
use Rattle.scan_line.specs.Verdicts.{JudgedBy}
use Rattle.shape.proofs.TableMachine.{machine_of}
use Rattle.scan_line.proofs.Cells.{machine_steps}
use Rattle.scan_line.proofs.Editions.{few, some, Moved, moves}
use Rattle.scan_line.proofs.Walks.{run_on, run_stops, taken_run}
use Rattle.scan_line.proofs.Scans.{verdict_fine, verdict_short, verdict_stray, by_machine}

-- all are bytes
abbrev pub AllBytes : List ℕ → Type 0
AllBytes w = (i : ℕ) → i < length w → get_or w i 0 < 256

module _ (l : LineEdition) where
  abbrev M : Tables
  M = machine_of l

  abbrev m : List ℕ
  m = machine_bytes l

  -- from state q, with d brackets more open, at a place
  unfoldable pub judge_from : ℕ → ℕ → ℕ → List ℕ → Verdict
  judge_from q d at [] = cond (accepting M q) Fine Short
  judge_from q d at (b ∷ w) =
      let p = move M q d b in
      let more = judge_from p.0 p.1 (at + 1) w in
      cond (ltb p.0 M.states) more (Stray at)

  abbrev pub judge : List ℕ → Verdict
  judge line = judge_from 0 0 0 line

  -- ---- it is the scan's verdict

  ends_same : (q d at : ℕ) → q < M.states → (a : Bool) → accepting M q ≡ a → verdict_by m (standing q d at) ≡ cond a Fine Short
  ends_same q d at h true e = verdict_fine m (standing q d at) (machine_steps l).long (few l q h) ((machine_steps l).ends q h ∙ e)
  ends_same q d at h false e = verdict_short m (standing q d at) (machine_steps l).long (few l q h) ((machine_steps l).ends q h ∙ e)

  judge_on : (q d at b : ℕ) (w : List ℕ) → (move M q d b).0 < M.states → judge_from q d at (b ∷ w) ≡ judge_from (move M q d b).0 (move M q d b).1 (at + 1) w
  unfolding judge_from
  judge_on q d at b w h = simp (lt-ltb (move M q d b).0 M.states h)

  judge_stops : (q d at b : ℕ) (w : List ℕ) → (move M q d b).0 ≡ M.states → judge_from q d at (b ∷ w) ≡ Stray at
  unfolding judge_from
  judge_stops q d at b w e = simp (le-ltb (move M q d b).0 M.states (omega (arith, e)))

  run_same : (w : List ℕ) (q d at : ℕ) → AllBytes w → q < M.states → verdict_by m (run_by m q d at w) ≡ judge_from q d at w
  unfolding run_by judge_from
  run_same [] q d at all h = ends_same q d at h (accepting M q) refl
  run_same (b ∷ w) q d at all h =
      by (run_same w (move M q d b).0 (move M q d b).1 (at + 1) (λ i k. all (suc i) (omega arith))) (dec_le states (move_by m q d b).0)
    where
      p : Moved l m q d b
      p = moves l (machine_steps l) q d b h (all 0 (omega arith))

      by : ((move M q d b).0 < M.states → verdict_by m (run_by m (move M q d b).0 (move M q d b).1 (at + 1) w) ≡ judge_from (move M q d b).0 (move M q d b).1 (at + 1) w)
          → Dec (states ≤ (move_by m q d b).0) → verdict_by m (run_by m q d at (b ∷ w)) ≡ judge_from q d at (b ∷ w)
      by ih (yes x) =
          ap (verdict_by m) (run_stops m q d at b w x)
          ∙ verdict_stray m (standing states 0 at) (machine_steps l).long (omega arith) ∙ sym (judge_stops q d at b w (p.dead x))
      by ih (no x) =
          let g = p.goes (omega arith) in
          let k = subst (λ (s : ℕ × ℕ). s.0 < M.states) g.0 g.1 in
          ap (verdict_by m) (run_on m q d at b w (omega arith))
          ∙ ap (λ (s : ℕ × ℕ). verdict_by m (run_by m s.0 s.1 (at + 1) w)) g.0 ∙ ih k ∙ sym (judge_on q d at b w k)

  scan_same : (line : List ℕ) → AllBytes line → length line < 2 ^ 64 → scanned_by m line ≡ judge line
  unfolding scanned_by
  scan_same line all h =
      ap (verdict_by m) (taken_run m (standing 0 0 0) line (machine_steps l).long (omega arith) (omega arith) (omega arith))
      ∙ run_same line 0 0 0 all (some l)

  -- so it is what the rules say of the line
  pub judge_right : (line : List ℕ) → AllBytes line → length line < 2 ^ 64 → JudgedBy l line (judge line)
  judge_right line all h = subst (JudgedBy l line) (scan_same line all h) (by_machine l line all h)
