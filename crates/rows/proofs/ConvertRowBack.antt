-- Converting a row: what it gives is the stored row of the current edition that is the same row as the old bytes; and with how long an output it is never
-- too short. Assumes nothing.
use Prim.Native.Nat.{ℕ, ◌+◌, ◌-◌, ◌≤◌}
use mathlib.Core.Path.{◌≡◌, sym, ap, subst}
use mathlib.Core.List.{List}
use native.Mathlib.Omega.{arith}
use lib.ListN.{length, take, length-append}
use lib.Seq.{take-append-add}
use Rattle.rules.specs.Limits.{max_annotations}
use Rattle.rules.specs.Preferred.{preferred_spelling}
use Rattle.rules.specs.Stored.{stores}
use Rattle.rules.specs.Answers.{Answer, Holds, ReadsForm, Converts}
use Rattle.rules.specs.Editions.{ed1, current}
use Rattle.rules.specs.Rows.{Row, row_head_size, row_head}
use Rattle.rules.specs.RowAnswers.{Moves, done, no_room, refused, HoldsRow, ConvertsRow}
use Rattle.rules.proofs.WritesOne.{holds_one}
use Rattle.lines.proofs.Converted.{convert_back, convert_enough}

-- the same row, in both editions
pub record ConvertsRowBack (bytes result : List ℕ) : Type 0 where
  pub row : Row
  pub was : HoldsRow ed1 bytes row
  pub is : HoldsRow current result row

module _ {bytes : List ℕ} (r : Row) (h : HoldsRow ed1 bytes r) (room : ℕ) {b : Answer}
    (x : ReadsForm current (preferred_spelling r.table) (room - row_head_size) b) where
  -- its table, which stands behind the head
  table_back : b.number ≡ 0 → Holds current (take b.size b.out) r.table
  table_back e =
      let y = convert_back (Converts.held r.table h.table x) e in
      subst (Holds current (take b.size b.out)) (holds_one ed1 ed1 y.was h.table) y.is

  moved_back : {at : ℕ} {a : Answer} → Moves (stores (row_head r.mz r.intensity)) at room b a → a.number ≡ 0 → ConvertsRowBack bytes (take a.size a.out)
  moved_back (done e) n =
      let head = stores (row_head r.mz r.intensity) in
      record {
        row = r;
        was = h;
        is = record { mz = h.mz; intensity = h.intensity; rest = take b.size b.out; table = table_back e; is = sym (take-append-add head b.out b.size) };
      }
  moved_back (no_room e) n = absurd (omega arith)
  moved_back (refused e f) n = absurd (e n)

pub convert_row_back : {bytes : List ℕ} {room : ℕ} {a : Answer} → ConvertsRow bytes room a → a.number ≡ 0 → ConvertsRowBack bytes (take a.size a.out)
convert_row_back (ConvertsRow.no_row n) e = absurd (omega arith)
convert_row_back {room = room} (ConvertsRow.held r h x m) e = moved_back r h room x m e

-- ---- an output that is never too short: two bytes more for each annotation

moved_enough : {bytes : List ℕ} (r : Row) (h : HoldsRow ed1 bytes r) (room : ℕ) {b : Answer} → ReadsForm current (preferred_spelling r.table) (room - row_head_size) b
    → length bytes + (max_annotations + max_annotations) ≤ room → {at : ℕ} {a : Answer} → Moves (stores (row_head r.mz r.intensity)) at room b a → a.number ≡ 8 → ⊥
moved_enough r h room x g (done e) n = omega arith
moved_enough r h room x g (no_room e) n =
    let l = length-append (stores (row_head r.mz r.intensity)) h.rest in
    convert_enough (Converts.held r.table h.table x) (omega (arith, ap length h.is)) e
moved_enough r h room x g (refused e f) n = f n

pub convert_row_enough : {bytes : List ℕ} {room : ℕ} {a : Answer} → ConvertsRow bytes room a → length bytes + (max_annotations + max_annotations) ≤ room → a.number ≡ 8 → ⊥
convert_row_enough (ConvertsRow.no_row n) g e = omega arith
convert_row_enough {room = room} (ConvertsRow.held r h x m) g e = moved_enough r h room x g m e
