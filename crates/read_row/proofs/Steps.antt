-- What each step of reading a row gives, in the words of its model. Assumes nothing.
use Prim.Native.Nat.{ℕ, ◌+◌, ◌≤◌, ◌<◌, min}
use mathlib.Core.Path.{◌≡◌, sym, ap, ◌∙◌}
use mathlib.Core.List.{List}
use lib.ListN.{length, drop}
use borrow.Author.Tests.{lt-ltb, le-ltb}
use Rattle.std.specs.Prelude.{Result, Ok, Err}
use Rattle.rules.specs.Stored.{little}
use Rattle.rules.specs.Answers.{refuses}
use Rattle.rules.specs.RowAnswers.{max_row}
use Rattle.put_bytes.specs.Puts.{Put}
use Rattle.put_bytes.proofs.Putting.{put_then, put_as}
use Rattle.numbers.specs.declared.Decimal.{Decimal}
use Rattle.read_row.specs.declared.Column.{Column}
use Rattle.read_row.specs.Columns.{column_of}
use Rattle.read_row.specs.Readings.{head_bytes, third_of, intensity_in, intensity_of, mz_in, read_row_of}

-- ---- the row

pub head_put : {mz intensity : Decimal} {v w p q : ℕ} {d d1 d2 d3 d4 d5 : List ℕ} {p1 p2 p3 p4 p5 : ℕ} → v ≡ mz.value → w ≡ intensity.value
    → p ≡ mz.places → q ≡ intensity.places → Put d 0 (little 8 v) d1 p1 → Put d1 p1 (little 8 w) d2 p2 → Put d2 p2 (little 1 p) d3 p3
    → Put d3 p3 (little 1 q) d4 p4 → Put d4 p4 (little 2 0) d5 p5 → Put d 0 (head_bytes mz intensity) d5 p5
head_put a b c e x1 x2 x3 x4 x5 = put_as (put_then x1 (put_then x2 (put_then x3 (put_then x4 x5)))) (rw (a, b, c, e))

module _ (machine row : List ℕ) (room : ℕ) where
  pub intensity_bad : (at : ℕ) (mz : Decimal) {s : List ℕ} {o : Result Column Column} {x : Column} → s ≡ drop at row → o ≡ column_of s → o ≡ Err x
      → refuses room 13 at ≡ intensity_of machine row at mz room
  unfolding intensity_of
  intensity_bad at mz q e g = ap (intensity_in machine row at mz room) (sym g ∙ e ∙ ap column_of q)

  pub intensity_good : (at : ℕ) (mz : Decimal) {to : ℕ} {s third : List ℕ} {o : Result Column Column} {x : Column} → s ≡ drop at row → o ≡ column_of s → o ≡ Ok x
      → to ≡ min (at + x.next) (length row) → third ≡ drop to row
      → third_of machine mz x.decimal third to room ≡ intensity_of machine row at mz room
  unfolding intensity_of
  intensity_good at mz {to} {x = x} q e g t d =
      ap (λ (l : List ℕ). third_of machine mz x.decimal l to room) d ∙ ap (λ (m : ℕ). third_of machine mz x.decimal (drop m row) m room) t
      ∙ ap (intensity_in machine row at mz room) (sym g ∙ e ∙ ap column_of q)

  pub row_long : max_row < length row → refuses room 1 max_row ≡ read_row_of machine row room
  unfolding read_row_of
  row_long h = rw (lt-ltb max_row (length row) h)

  row_in : {o : Result Column Column} → length row ≤ max_row → o ≡ column_of row → mz_in machine row room o ≡ read_row_of machine row room
  unfolding read_row_of
  row_in h e = ap (mz_in machine row room) e ∙ rw (le-ltb max_row (length row) h)

  pub row_bad : {o : Result Column Column} {x : Column} → length row ≤ max_row → o ≡ column_of row → o ≡ Err x → refuses room 12 0 ≡ read_row_of machine row room
  row_bad h e g = ap (mz_in machine row room) (sym g) ∙ row_in h e

  pub row_good : {o : Result Column Column} {x : Column} → length row ≤ max_row → o ≡ column_of row → o ≡ Ok x
      → intensity_of machine row x.next x.decimal room ≡ read_row_of machine row room
  row_good h e g = ap (mz_in machine row room) (sym g) ∙ row_in h e
