-- What is answered to a row is what document 02, M-101 and M-113 say. Assumes nothing.
use Prim.Native.Nat.{ℕ, ◌+◌, ◌-◌, ◌≤◌, min}
use mathlib.Core.Path.{◌≡◌, refl, sym, ap, ◌∙◌, subst}
use mathlib.Core.Bool.{Bool, true, false, cond}
use mathlib.Core.List.{List, ◌∷◌}
use native.Mathlib.Omega.{arith}
use lib.Dec.{eqb, ltb}
use lib.ListN.{length, drop, length-append, length-drop}
use lib.Seq.{drop-length, drop-append-add, drop-drop}
use borrow.Author.Tests.{ltb-true, ltb-false, le-ltb, eqb-true, eqb-false}
use Rattle.rules.specs.Editions.{LineEdition}
use Rattle.rules.specs.Answers.{Answer, refuses}
use Rattle.rules.specs.Rows.{row_head_size}
use Rattle.rules.specs.RowAnswers.{max_row, Cut, at_tab, no_tab, Moves, ReadsThird, line, ReadsIntensity, ReadsRow, long}
use Rattle.put_bytes.specs.Puts.{max_place}
use Rattle.scan_line.specs.Verdicts.{JudgedBy}
use Rattle.scan_line.specs.Steps.{scanned_by}
use Rattle.numbers.specs.declared.Decimal.{Decimal}
use Rattle.numbers.specs.Making.{ruled}
use Rattle.read_line.specs.Readings.{read_of}
use Rattle.read_line.proofs.Right.{read_right}
use Rattle.answers.specs.Behind.{capped}
use Rattle.answers.proofs.Behind.{capped_is}
use Rattle.std.specs.Prelude.{Result, Ok, Err}
use Rattle.read_row.specs.declared.Column.{Column}
use Rattle.read_row.specs.Columns.{good_column, column_in, column_of}
use Rattle.read_row.specs.Readings.{head_bytes, headed_of, moved_of, third_of, intensity_in, intensity_of, mz_in, read_row_of}
use Rattle.read_row.proofs.Cuts.{cut_some}
use Rattle.read_row.proofs.Decimals.{read_good, read_bad}
use Rattle.read_row.proofs.LinePlaces.{Filled, reads_place, reads_fill}

-- ---- where a column ends

pub cut_place : {s column more : List ℕ} {place : ℕ} → Cut s column more place → place ≤ length s
cut_place (at_tab column more l e) = omega (arith, length-append column (9 ∷ more), ap length e)
cut_place (no_tab l) = omega arith

pub cut_rest : {s column more : List ℕ} {place : ℕ} → Cut s column more place → drop place s ≡ more
cut_rest (at_tab column more l e) = ap (drop (length column + 1)) (sym e) ∙ drop-append-add column (9 ∷ more) 1
cut_rest {s} (no_tab l) = drop-length s

-- ---- the third column

-- whose places are not far, and whose table, if it has one, is in the output
module _ (head : List ℕ) (at room : ℕ) (small : room ≤ max_place) (b : Answer) (near : at + (row_head_size + b.place) ≤ max_place)
    (fills : b.number ≡ 0 → Filled (room - row_head_size) b) where
  pub moved_right : Moves head at room b (moved_of head at room b)
  unfolding moved_of
  moved_right = by (eqb b.number 0) refl (eqb b.number 8) refl
    where
      done : b.number ≡ 0 → Moves head at room b (headed_of head room b.size b.out)
      done e =
          let f = fills e in
          let x = f.some in
          let y = f.inside in
          let q = capped_is row_head_size b.size (omega arith) in
          rw (q, le-ltb room (row_head_size + b.size) (omega arith)) (Moves.done e)

      by : (u : Bool) → eqb b.number 0 ≡ u → (v : Bool) → eqb b.number 8 ≡ v
          → Moves head at room b (cond u (headed_of head room b.size b.out)
          (cond v (refuses room 8 (capped row_head_size b.place)) (refuses room b.number (capped at b.place))))
      by true e v f = done (eqb-true b.number 0 e)
      by false e true f = rw (capped_is row_head_size b.place (omega arith)) (Moves.no_room (eqb-true b.number 8 f))
      by false e false f = rw (capped_is at b.place (omega arith)) (Moves.refused (eqb-false b.number 0 e) (eqb-false b.number 8 f))

-- ---- a row by a machine whose verdicts are right in an edition of lines

module _ (l : LineEdition) (machine row : List ℕ) (room : ℕ) (small : room ≤ max_place) (short : length row ≤ max_row)
    (judged : (n : ℕ) → JudgedBy l (drop n row) (scanned_by machine (drop n row))) where
  third_right : (mz intensity : Decimal) (n : ℕ) → n ≤ length row
      → ReadsThird l (ruled mz) (ruled intensity) (drop n row) n room (third_of machine mz intensity (drop n row) n room)
  unfolding third_of
  third_right mz intensity n h =
      let third = drop n row in
      let r = read_right l third (room - row_head_size) (omega arith) (scanned_by machine third) (judged n) in
      line r (moved_right (head_bytes mz intensity) n room small (read_of (scanned_by machine third) third (room - row_head_size)) (omega (arith, reads_place r, length-drop n row)) (reads_fill r))

  -- the same, where its place and its bytes are said otherwise
  third_at : (mz intensity : Decimal) (to at : ℕ) (third : List ℕ) → to ≤ length row → to ≡ at → drop to row ≡ third
      → ReadsThird l (ruled mz) (ruled intensity) third at room (third_of machine mz intensity (drop to row) to room)
  third_at mz intensity to at third h e q =
      let a = third_of machine mz intensity (drop to row) to room in
      subst (λ (n : ℕ). ReadsThird l (ruled mz) (ruled intensity) third n room a) e
      (subst (λ (w : List ℕ). ReadsThird l (ruled mz) (ruled intensity) w to room a) q (third_right mz intensity to h))

  intensity_right : (mz : Decimal) (at : ℕ) → at ≤ length row → ReadsIntensity l (ruled mz) (drop at row) at room (intensity_of machine row at mz room)
  unfolding intensity_of
  intensity_right mz at h = by (good_column (drop at row)) refl
    where
      by : (t : Bool) → good_column (drop at row) ≡ t
          → ReadsIntensity l (ruled mz) (drop at row) at room (intensity_in machine row at mz room (cond {A = Result Column Column} t (Ok (column_in (drop at row))) (Err (column_in (drop at row)))))
      by true e =
          let g = read_good (drop at row) e in
          let n = (column_in (drop at row)).next in
          let p = cut_place g.cut in
          let q : min (at + n) (length row) ≡ at + n = omega (arith, length-drop at row) in
          let z = ap (λ (m : ℕ). drop m row) q ∙ sym (drop-drop n at row) ∙ cut_rest g.cut in
          ReadsIntensity.good g.cut g.text (third_at mz (column_in (drop at row)).decimal (min (at + n) (length row)) (at + n) g.more (omega arith) q z)
      by false e = ReadsIntensity.bad (cut_some (drop at row)).is (read_bad (drop at row) e (cut_some (drop at row)).is)

  pub mz_right : ReadsRow l row room (mz_in machine row room (column_of row))
  mz_right = by (good_column row) refl
    where
      by : (t : Bool) → good_column row ≡ t → ReadsRow l row room (mz_in machine row room (cond {A = Result Column Column} t (Ok (column_in row)) (Err (column_in row))))
      by true e =
          let g = read_good row e in
          let n = (column_in row).next in
          let a = intensity_of machine row n (column_in row).decimal room in
          ReadsRow.good short g.cut g.text
          (subst (λ (w : List ℕ). ReadsIntensity l (ruled (column_in row).decimal) w n room a) (cut_rest g.cut)
          (intensity_right (column_in row).decimal n (cut_place g.cut)))
      by false e = ReadsRow.bad short (cut_some row).is (read_bad row e (cut_some row).is)

pub read_row_right : (l : LineEdition) (machine row : List ℕ) (room : ℕ) → room ≤ max_place → ((n : ℕ) → JudgedBy l (drop n row) (scanned_by machine (drop n row)))
    → ReadsRow l row room (read_row_of machine row room)
unfolding read_row_of
read_row_right l machine row room small judged = by (ltb max_row (length row)) refl
  where
    by : (t : Bool) → ltb max_row (length row) ≡ t → ReadsRow l row room (cond t (refuses room 1 max_row) (mz_in machine row room (column_of row)))
    by true e = long (ltb-true max_row (length row) e)
    by false e = mz_right l machine row room small (ltb-false max_row (length row) e) judged
