-- Relabelling a row: it has one answer; as many bytes as the row has and one for each annotation that it may have suffice; and what was given
-- is given again. Assumes nothing.
use Prim.Native.Nat.{ℕ, ◌+◌, ◌-◌, ◌≤◌, min}
use mathlib.Core.Path.{◌≡◌, refl, sym, ap, ◌∙◌, subst}
use mathlib.Core.List.{List, [], ◌∷◌, ◌++◌}
use native.Mathlib.Omega.{arith}
use native.Mathlib.Nat.{le_refl}
use native.Mathlib.Decide.{dec_le}
use lib.Dec.{T}
use lib.ListN.{length, take, length-append, length-take}
use lib.Seq.{take-append-add}
use Rattle.lang.specs.Parts.{opt_text}
use Rattle.lang.specs.Order.{Each, none}
use Rattle.rules.specs.Decimals.{Decimal, decimal_text}
use Rattle.rules.specs.Fields.{Table, Says}
use Rattle.rules.specs.Limits.{fits, max_line, max_annotations}
use Rattle.rules.specs.Lines.{within}
use Rattle.rules.specs.Preferred.{preferred, preferred_spelling}
use Rattle.rules.specs.Stored.{stores, stored}
use Rattle.rules.specs.Answers.{Answer, refuses, gives, Delivers, no_room, done, Reads, Writes}
use Rattle.rules.specs.Largest.{max_table}
use Rattle.rules.specs.Editions.{LineEdition, current}
use Rattle.rules.specs.Rows.{tab, third_text, Row, preferred_third, preferred_row, row_head_size, row_head}
use Rattle.rules.specs.RowAnswers.{max_row, at_tab, no_tab, Moves, ReadsThird, line, ReadsIntensity, ReadsRow, HoldsRow, WritesRow}
use Rattle.rules.proofs.PreferredSpells.{preferred_within}
use Rattle.write_table.proofs.Holds.{take_given}
use Rattle.lines.specs.Relabels as lines
use Rattle.lines.proofs.Back.{relabel_enough}
use Rattle.lines.proofs.Enough.{delivers_enough, read_enough}
use Rattle.lines.proofs.Right.{Read, reads_table, bytes_read, holds_read}
use Rattle.read_row.proofs.LinePlaces.{reads_fill}
use Rattle.rows.specs.Relabels.{max_stored_row, RelabelsRow, refused, relabelled}
use Rattle.rows.proofs.OneRow.{reads_row_one, holds_row_one, writes_row_one}
use Rattle.rows.proofs.RowBack.{preferred_row_short, read_back_row, no_annotations, nothing_behind}

-- ---- one answer

pub relabels_row_one : {l : LineEdition} {row : List ℕ} {room : ℕ} {a b : Answer} → RelabelsRow l row room a → RelabelsRow l row room b → a ≡ b
relabels_row_one {room = room} (refused x h) (refused y g) = ap (λ (a : Answer). refuses room a.number a.place) (reads_row_one x y)
relabels_row_one (refused x h) (relabelled y n w) = absurd (h (ap (λ (a : Answer). a.number) (reads_row_one x y) ∙ n))
relabels_row_one (relabelled x n w) (refused y g) = absurd (g (ap (λ (a : Answer). a.number) (reads_row_one y x) ∙ n))
relabels_row_one {l} {room = room} (relabelled x n w) (relabelled {b = b} y m v) =
    writes_row_one w (subst (λ (a : Answer). WritesRow l (take a.size a.out) room b) (reads_row_one y x) v)

-- ---- room for the stored row

moved_enough : {l : LineEdition} {head third : List ℕ} {at room : ℕ} {b a : Answer} → Reads l third (room - row_head_size) b → Moves head at room b a → max_stored_row ≤ room → a.number ≡ 8 → ⊥
moved_enough r (Moves.done e) h n = omega arith
moved_enough {third = third} r (Moves.no_room e) h n = read_enough third r (omega arith) e
moved_enough r (Moves.refused d e) h n = e n

third_enough : {l : LineEdition} {mz intensity : Decimal} {third : List ℕ} {at room : ℕ} {a : Answer} → ReadsThird l mz intensity third at room a → max_stored_row ≤ room → a.number ≡ 8 → ⊥
third_enough (line r m) h n = moved_enough r m h n

intensity_enough : {l : LineEdition} {mz : Decimal} {bytes : List ℕ} {at room : ℕ} {a : Answer} → ReadsIntensity l mz bytes at room a → max_stored_row ≤ room → a.number ≡ 8 → ⊥
intensity_enough (ReadsIntensity.bad x n) h e = omega arith
intensity_enough (ReadsIntensity.good x g r) h e = third_enough r h e

pub read_row_enough : {l : LineEdition} {row : List ℕ} {room : ℕ} {a : Answer} → ReadsRow l row room a → max_stored_row ≤ room → a.number ≡ 8 → ⊥
read_row_enough (ReadsRow.long l) h e = omega arith
read_row_enough (ReadsRow.bad l x n) h e = omega arith
read_row_enough (ReadsRow.good l x g r) h e = intensity_enough r h e

-- ---- room for the preferred row

-- a preferred line within its bound has no more bytes than the line and one for each annotation that it may have
line_near : {l : LineEdition} (third : List ℕ) {a : Answer} → Reads l third max_table a → a.number ≡ 0 → (x : Read l third max_table a) → length (preferred x.table) ≤ max_line
    → length (preferred x.table) ≤ length third + max_annotations
line_near {l} third {a} r e x n = by (dec_le (length (preferred x.table)) (length third + max_annotations))
  where
    by : Dec (length (preferred x.table) ≤ length third + max_annotations) → length (preferred x.table) ≤ length third + max_annotations
    by (yes h) = h
    by (no h) =
        let w : Writes l (take a.size a.out) (length third + max_annotations) (refuses (length third + max_annotations) 8 (length (preferred x.table))) =
        Writes.fits x.table (holds_read third max_table x) (preferred_within l x.says x.edition) n (no_room (omega arith)) in
        absurd (relabel_enough third (lines.relabelled r e w) (λ s. omega arith) refl)

-- the stored row that was read, and what it is written as
record ReadNear (row bytes : List ℕ) : Type 0 where
  means : Row
  holds : HoldsRow current bytes means
  near : length (preferred means.table) ≤ max_line → length (preferred_row means) ≤ length row + max_annotations

-- without a line there are no annotations
said_nothing : {t : Table} → Each Says [] t → t ≡ []
said_nothing none = refl

third_near : (t : Table) (n : ℕ) → length (preferred t) ≤ n → length (opt_text third_text (preferred_third t)) ≤ n + 1
third_near [] n h = omega arith
third_near (a ∷ t) n h = omega arith

module _ (mz d : Decimal) (f : T (fits mz)) (g : T (fits d)) (row : List ℕ) where
  abbrev v : List ℕ
  v = decimal_text mz

  abbrev w : List ℕ
  w = decimal_text d

  abbrev meant : Table → Row
  meant t = record { mz = mz; intensity = d; table = t }

  near_moved : {l : LineEdition} {third : List ℕ} {at : ℕ} {b a : Answer} → Reads l third (max_stored_row - row_head_size) b → Moves (stores (row_head mz d)) at max_stored_row b a → a.number ≡ 0
      → ((t : Table) → (third ≡ [] → t ≡ []) → (length (preferred t) ≤ max_line → length (preferred t) ≤ length third + max_annotations)
      → length (preferred t) ≤ max_line → length (preferred_row (meant t)) ≤ length row + max_annotations)
      → ReadNear row (take a.size a.out)
  near_moved {third} {b = b} r (Moves.done e) n h =
      let x = reads_table third max_table r e in
      let head = stores (row_head mz d) in
      let q : take (row_head_size + b.size) (head ++ b.out) ≡ head ++ stored current x.table =
      take-append-add head b.out b.size ∙ ap (λ (w : List ℕ). head ++ w) (bytes_read third max_table x) in
      record {
        means = meant x.table;
        holds = record { mz = f; intensity = g; rest = stored current x.table; table = record { sound = x.sound; is = refl }; is = sym q };
        near = h x.table (λ z. said_nothing (no_annotations (x.text ∙ z) x.says)) (line_near third r e x);
      }
  near_moved r (Moves.no_room e) n h = absurd (omega arith)
  near_moved r (Moves.refused e q) n h = absurd (e n)

  near_third : {l : LineEdition} {third : List ℕ} {at : ℕ} {a : Answer} → ReadsThird l mz d third at max_stored_row a → a.number ≡ 0
      → ((t : Table) → (third ≡ [] → t ≡ []) → (length (preferred t) ≤ max_line → length (preferred t) ≤ length third + max_annotations)
      → length (preferred t) ≤ max_line → length (preferred_row (meant t)) ≤ length row + max_annotations)
      → ReadNear row (take a.size a.out)
  near_third (line r m) n h = near_moved r m n h

  -- with a third column, and without
  near_tab : (third : List ℕ) → v ++ (tab ++ (w ++ (tab ++ third))) ≡ row → (t : Table) → length (preferred t) ≤ length third + max_annotations
      → length (preferred_row (meant t)) ≤ length row + max_annotations
  near_tab third e t h =
      let x = opt_text third_text (preferred_third t) in
      let i = ap length e in
      let j = length-append v (tab ++ (w ++ (tab ++ third))) in
      let k = length-append w (tab ++ third) in
      omega (arith, length-append v (tab ++ (w ++ x)), length-append w x, third_near t (length third + max_annotations) h)

  near_bare : v ++ (tab ++ w) ≡ row → (t : Table) → t ≡ [] → length (preferred_row (meant t)) ≤ length row + max_annotations
  near_bare e t z =
      let i = ap length e in
      let j = length-append v (tab ++ w) in
      subst (λ (y : Table). length (preferred_row (meant y)) ≤ length row + max_annotations) (sym z)
      (omega (arith, length-append {A = ℕ} v (tab ++ (w ++ [])), length-append {A = ℕ} w []))

near_intensity : {l : LineEdition} {row bytes : List ℕ} {at : ℕ} {a : Answer} (mz : Decimal) → T (fits mz) → ReadsIntensity l mz bytes at max_stored_row a → a.number ≡ 0
    → decimal_text mz ++ (tab ++ bytes) ≡ row → ReadNear row (take a.size a.out)
near_intensity mz f (ReadsIntensity.bad x n) e q = absurd (omega arith)
near_intensity {row} mz f (ReadsIntensity.good (at_tab column third l p) {intensity = d} g r) e q =
    let z = ap (λ (x : List ℕ). decimal_text mz ++ (tab ++ x)) (ap (λ (x : List ℕ). x ++ (tab ++ third)) g.text ∙ p) ∙ q in
    near_third mz d f g.bounds row r e (λ t y h s. near_tab mz d f g.bounds row third z t (h s))
near_intensity {row} mz f (ReadsIntensity.good (no_tab l) {intensity = d} g r) e q =
    let z = ap (λ (x : List ℕ). decimal_text mz ++ (tab ++ x)) g.text ∙ q in
    near_third mz d f g.bounds row r e (λ t y h s. near_bare mz d f g.bounds row z t (y refl))

reads_near : {l : LineEdition} {row : List ℕ} {a : Answer} → ReadsRow l row max_stored_row a → a.number ≡ 0 → ReadNear row (take a.size a.out)
reads_near (ReadsRow.long h) e = absurd (omega arith)
reads_near (ReadsRow.bad h x n) e = absurd (omega arith)
reads_near (ReadsRow.good h (at_tab column more l p) {mz = d} f r) e =
    near_intensity d f.bounds r e (ap (λ (x : List ℕ). x ++ (tab ++ more)) f.text ∙ p)
reads_near (ReadsRow.good h (no_tab l) f r) e = absurd (nothing_behind r e)

-- an output as long as the row, and a byte longer for each annotation, or as long as any row, is never too short
pub relabel_row_enough : {l : LineEdition} {row : List ℕ} {room : ℕ} {b : Answer} → RelabelsRow l row room b → min (length row + max_annotations) max_row ≤ room → b.number ≡ 8 → ⊥
relabel_row_enough (refused r h) large e = read_row_enough r (le_refl max_stored_row) e
relabel_row_enough (relabelled r n (WritesRow.no_row x)) large e = omega arith
relabel_row_enough (relabelled r n (WritesRow.old u h o)) large e = omega arith
relabel_row_enough (relabelled r n (WritesRow.lettered u h i)) large e = omega arith
relabel_row_enough (relabelled r n (WritesRow.long u h i l)) large e = omega arith
relabel_row_enough {row = row} {room = room} (relabelled r n (WritesRow.fits u h i l d)) large e =
    let x = reads_near r n in
    let q = holds_row_one x.holds h in
    let s = subst (λ (y : Row). length (preferred y.table) ≤ max_line) (sym q) l in
    let near : length (preferred_row u) ≤ length row + max_annotations = subst (λ (y : Row). length (preferred_row y) ≤ length row + max_annotations) q (x.near s) in
    let short : length (preferred_row u) ≤ max_row = preferred_row_short u h.mz h.intensity l in
    delivers_enough d (omega arith) e

-- ---- given again

fits_again : {l : LineEdition} {bytes : List ℕ} {room room' : ℕ} (r : Row) → HoldsRow current bytes r → T (within l (preferred_spelling r.table)) → length (preferred r.table) ≤ max_line
    → {a : Answer} → Delivers room (preferred_row r) a → a.number ≡ 0 → a.size ≤ room' → WritesRow l bytes room' (gives room' (take a.size a.out))
fits_again r h i g (no_room d) e n = absurd (omega arith)
fits_again {l} {bytes} {room} {room'} r h i g (done d) e n =
    subst (λ (w : List ℕ). WritesRow l bytes room' (gives room' w)) (sym (take_given room (preferred_row r))) (WritesRow.fits r h i g (done n))

writes_again : {l : LineEdition} {bytes : List ℕ} {room room' : ℕ} {a : Answer} → WritesRow l bytes room a → a.number ≡ 0 → a.size ≤ room'
    → WritesRow l bytes room' (gives room' (take a.size a.out))
writes_again (WritesRow.no_row n) e l = absurd (omega arith)
writes_again (WritesRow.old r h o) e l = absurd (omega arith)
writes_again (WritesRow.lettered r h i) e n = absurd (omega arith)
writes_again (WritesRow.long r h i g) e n = absurd (omega arith)
writes_again (WritesRow.fits r h i g d) e n = fits_again r h i g d e n

-- what was read has no more bytes than the output
moved_inside : {l : LineEdition} {head third : List ℕ} {at room : ℕ} {b a : Answer} → Reads l third (room - row_head_size) b → Moves head at room b a → a.number ≡ 0 → a.size ≤ room
moved_inside r (Moves.done e) n =
    let f = reads_fill r e in
    let x = f.some in
    let y = f.inside in
    omega arith
moved_inside r (Moves.no_room e) n = absurd (omega arith)
moved_inside r (Moves.refused d e) n = absurd (d n)

third_inside : {l : LineEdition} {mz intensity : Decimal} {third : List ℕ} {at room : ℕ} {a : Answer} → ReadsThird l mz intensity third at room a → a.number ≡ 0 → a.size ≤ room
third_inside (line r m) n = moved_inside r m n

intensity_inside : {l : LineEdition} {mz : Decimal} {bytes : List ℕ} {at room : ℕ} {a : Answer} → ReadsIntensity l mz bytes at room a → a.number ≡ 0 → a.size ≤ room
intensity_inside (ReadsIntensity.bad x n) e = absurd (omega arith)
intensity_inside (ReadsIntensity.good x g r) e = third_inside r e

reads_inside : {l : LineEdition} {row : List ℕ} {room : ℕ} {a : Answer} → ReadsRow l row room a → a.number ≡ 0 → a.size ≤ room
reads_inside (ReadsRow.long l) e = absurd (omega arith)
reads_inside (ReadsRow.bad l x n) e = absurd (omega arith)
reads_inside (ReadsRow.good l x g r) e = intensity_inside r e

-- there is such an answer
pub given_again_row : {l : LineEdition} {row : List ℕ} {room room' : ℕ} {a : Answer} → RelabelsRow l row room a → a.number ≡ 0 → a.size ≤ room'
    → RelabelsRow l (take a.size a.out) room' (gives room' (take a.size a.out))
given_again_row (refused r h) e l = absurd (h e)
given_again_row {l} {room' = room'} {a = a} (relabelled {a = t} r n w) e k =
    let s = take t.size t.out in
    let read = read_back_row w e max_stored_row (omega (arith, length-take t.size t.out, reads_inside r n)) in
    relabelled read refl
    (subst (λ (v : List ℕ). WritesRow l v room' (gives room' (take a.size a.out))) (sym (take_given max_stored_row s)) (writes_again w e k))

-- and every answer is this one
pub relabel_row_same : {l : LineEdition} {row : List ℕ} {room room' : ℕ} {a b : Answer} → RelabelsRow l row room a → a.number ≡ 0 → a.size ≤ room'
    → RelabelsRow l (take a.size a.out) room' b → b ≡ gives room' (take a.size a.out)
relabel_row_same r e l x = relabels_row_one x (given_again_row r e l)
