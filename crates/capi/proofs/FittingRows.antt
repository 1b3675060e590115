-- Two bytes hold each number of the answer to a row or a stored row: its columns are short, and its line is answered by few.
-- Assumes nothing.
use Prim.Native.Nat.{ℕ, ◌+◌, ◌-◌, ◌≤◌}
use mathlib.Core.Path.{ap}
use mathlib.Core.List.{List, [], ◌∷◌, ◌++◌}
use native.Mathlib.Omega.{arith}
use lib.Dec.{T}
use lib.ListN.{length, length-append, length-drop}
use Rattle.lang.specs.Parts.{opt_text}
use Rattle.rules.specs.Decimals.{Decimal, decimal_text}
use Rattle.rules.specs.Limits as Limits
use Rattle.rules.specs.Limits.{max_line}
use Rattle.rules.specs.Fields.{Table}
use Rattle.rules.specs.Preferred.{preferred}
use Rattle.rules.specs.Editions.{LineEdition}
use Rattle.rules.specs.Answers.{Answer}
use Rattle.rules.specs.Rows.{Row, tab, row_head_size, third_text, preferred_third, preferred_row}
use Rattle.rules.specs.RowAnswers.{Cut, Moves, ReadsThird, ReadsIntensity, ReadsRow, WritesRow, third_at, ConvertsRow}
use Rattle.read_row.proofs.Decimals.{decimal_short}
use Rattle.read_row.proofs.Right.{cut_place, cut_rest}
use Rattle.rows.specs.Relabels.{RelabelsRow}
use Rattle.lines.proofs.Converted.{form_answers}
use Rattle.pack_answer.specs.Handed.{AtMost, most}
use Rattle.capi.proofs.Fitting.{delivered_most, reads_most, most_of_row, most_of_converted, converted_most, at_most}

-- ---- reading

moved_fit : {m : ℕ} {head : List ℕ} {at room : ℕ} {line a : Answer} → at + m ≤ most → row_head_size + m ≤ most → AtMost m line → Moves head at room line a → AtMost most a
moved_fit g k h (Moves.done e) = record { number = omega arith; place = omega arith; size = omega (arith, h.size) }
moved_fit g k h (Moves.no_room e) = record { number = omega arith; place = omega (arith, h.place); size = omega arith }
moved_fit g k h (Moves.refused e f) = record { number = omega (arith, h.number); place = omega (arith, h.place); size = omega arith }

third_fits : {l : LineEdition} {mz intensity : Decimal} {third : List ℕ} {at room : ℕ} {a : Answer} → at ≤ 8320 → ReadsThird l mz intensity third at room a → AtMost most a
third_fits g (ReadsThird.line r m) = moved_fit (omega arith) (omega arith) (reads_most r) m

intensity_fits : {l : LineEdition} {mz : Decimal} {bytes : List ℕ} {at room : ℕ} {a : Answer} → at ≤ 4160 → length bytes ≤ 4160 → ReadsIntensity l mz bytes at room a → AtMost most a
intensity_fits g l (ReadsIntensity.bad c b) = record { number = omega arith; place = omega arith; size = omega arith }
intensity_fits g l (ReadsIntensity.good c d r) = third_fits (omega (arith, cut_place c)) r

-- what stands behind a column is no longer than the whole
rest_short : {s column more : List ℕ} {place : ℕ} → Cut s column more place → length more ≤ length s
rest_short {s} {place = place} c = omega (arith, length-drop place s, ap length (cut_rest c))

pub reads_row_fit : {l : LineEdition} {row : List ℕ} {room : ℕ} {a : Answer} → ReadsRow l row room a → AtMost most a
reads_row_fit (ReadsRow.long h) = record { number = omega arith; place = omega arith; size = omega arith }
reads_row_fit (ReadsRow.bad h c b) = record { number = omega arith; place = omega arith; size = omega arith }
reads_row_fit (ReadsRow.good h c d r) = intensity_fits (omega (arith, cut_place c)) (omega (arith, rest_short c)) r

-- ---- writing

third_short : (t : Table) → length (preferred t) ≤ max_line → length (opt_text third_text (preferred_third t)) ≤ 4097
third_short [] h = omega arith
third_short (a ∷ t) h = omega (arith, length-append tab (preferred (a ∷ t)))

row_short : (r : Row) → T (Limits.fits r.mz) → T (Limits.fits r.intensity) → length (preferred r.table) ≤ max_line → length (preferred_row r) ≤ most_of_row
row_short r m i h =
    let third = opt_text third_text (preferred_third r.table) in
    let second = decimal_text r.intensity ++ third in
    omega (
      arith,
      length-append (decimal_text r.mz) (tab ++ second),
      length-append tab second,
      length-append (decimal_text r.intensity) third,
      decimal_short r.mz m,
      decimal_short r.intensity i,
      third_short r.table h,
    )

pub writes_row_fit : {l : LineEdition} {bytes : List ℕ} {room : ℕ} {a : Answer} → WritesRow l bytes room a → AtMost most a
writes_row_fit (WritesRow.no_row n) = record { number = omega arith; place = omega arith; size = omega arith }
writes_row_fit (WritesRow.old r h o) = record { number = omega arith; place = omega arith; size = omega arith }
writes_row_fit (WritesRow.lettered r h n) = record { number = omega arith; place = omega arith; size = omega arith }
writes_row_fit (WritesRow.long r h w n) = record { number = omega arith; place = omega arith; size = omega arith }
writes_row_fit (WritesRow.fits r h w n d) = at_most (omega arith) (delivered_most (row_short r h.mz h.intensity n) (omega arith) d)

-- ---- converting

-- two columns and two tabs
third_near : (r : Row) → T (Limits.fits r.mz) → T (Limits.fits r.intensity) → third_at r ≤ 64
third_near r m i =
    let second = decimal_text r.intensity ++ tab in
    omega (
      arith,
      length-append (decimal_text r.mz) (tab ++ second),
      length-append tab second,
      length-append (decimal_text r.intensity) tab,
      decimal_short r.mz m,
      decimal_short r.intensity i,
    )

pub converts_row_fit : {bytes : List ℕ} {room : ℕ} {a : Answer} → ConvertsRow bytes room a → AtMost most a
converts_row_fit (ConvertsRow.no_row n) = record { number = omega arith; place = omega arith; size = omega arith }
converts_row_fit {room = room} (ConvertsRow.held r h x m) =
    let b = converted_most r.table h.table (room - row_head_size) (form_answers r.table h.table (room - row_head_size) x) in
    moved_fit (omega (arith, third_near r h.mz h.intensity)) (omega arith) b m

pub relabels_row_fit : {l : LineEdition} {row : List ℕ} {room : ℕ} {a : Answer} → RelabelsRow l row room a → AtMost most a
relabels_row_fit (RelabelsRow.refused r n) = let h = reads_row_fit r in record { number = h.number; place = h.place; size = omega arith }
relabels_row_fit (RelabelsRow.relabelled r e w) = writes_row_fit w
