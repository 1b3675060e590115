-- Two answers that meet a contract of this crate are equal. Assumes nothing.
use Prim.Native.Nat.{ℕ}
use mathlib.Core.Path.{◌≡◌}
use mathlib.Core.List.{List}
use Rattle.rules.specs.Editions.{LineEdition}
use Rattle.rules.specs.RowAnswers.{ReadsRow, WritesRow, ConvertsRow}
use Rattle.answers.specs.Delivered.{Answer, answered}
use Rattle.answers.proofs.One.{answered_one}
use Rattle.rows.specs.Relabels.{RelabelsRow}
use Rattle.rows.proofs.OneRow as one
use Rattle.rows.proofs.RelabelBack as back

module _ {room : ℕ} {e f : List ℕ} (r q : Answer) where
  pub reads_row_one : {l : LineEdition} (row : List ℕ) → ReadsRow l row room (answered r e) → ReadsRow l row room (answered q f) → (e ≡ f) × (r ≡ q)
  reads_row_one row a b = answered_one (one.reads_row_one a b)

  pub writes_row_one : {l : LineEdition} (bytes : List ℕ) → WritesRow l bytes room (answered r e) → WritesRow l bytes room (answered q f) → (e ≡ f) × (r ≡ q)
  writes_row_one bytes a b = answered_one (one.writes_row_one a b)

  pub converts_row_one : (bytes : List ℕ) → ConvertsRow bytes room (answered r e) → ConvertsRow bytes room (answered q f) → (e ≡ f) × (r ≡ q)
  converts_row_one bytes a b = answered_one (one.converts_row_one a b)

  pub relabels_row_one : {l : LineEdition} (row : List ℕ) → RelabelsRow l row room (answered r e) → RelabelsRow l row room (answered q f) → (e ≡ f) × (r ≡ q)
  relabels_row_one row a b = answered_one (back.relabels_row_one a b)
