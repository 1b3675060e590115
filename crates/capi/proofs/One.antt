-- Two answers that meet a contract of this crate are equal: of the calls that make their machine by this; the others are equations.
-- Assumes nothing.
use Prim.Native.Nat.{ℕ}
use mathlib.Core.Path.{◌≡◌}
use mathlib.Core.List.{List}
use Rattle.rules.specs.Editions.{LineEdition}
use Rattle.rules.specs.Answers.{Reads, Writes, Converts}
use Rattle.rules.specs.RowAnswers.{ReadsRow, WritesRow, ConvertsRow}
use Rattle.rules.proofs.WritesOne as rules
use Rattle.shape.proofs.Unambiguous as shape
use Rattle.lines.specs.Relabels.{Relabels}
use Rattle.lines.proofs.Back as lines
use Rattle.rows.specs.Relabels.{RelabelsRow}
use Rattle.rows.proofs.OneRow as rows
use Rattle.rows.proofs.RelabelBack as relabelled
use Rattle.pack_answer.specs.Handed.{Handed, Hands}
use Rattle.pack_answer.proofs.One.{hands_one}

module _ {room n : ℕ} {x y : Handed} where
  pub read_one : (l : LineEdition) (line : List ℕ) → Hands (Reads l line room) room n x → Hands (Reads l line room) room n y → x ≡ y
  read_one l line = hands_one (λ a b r q. shape.reads_one r q)

  pub write_one : (l : LineEdition) (table : List ℕ) → Hands (Writes l table room) room n x → Hands (Writes l table room) room n y → x ≡ y
  write_one l table = hands_one (λ a b r q. rules.writes_one r q)

  pub convert_one : (table : List ℕ) → Hands (Converts table room) room n x → Hands (Converts table room) room n y → x ≡ y
  convert_one table = hands_one (λ a b r q. shape.converts_one r q)

  pub relabel_one : (l : LineEdition) (line : List ℕ) → Hands (Relabels l line room) room n x → Hands (Relabels l line room) room n y → x ≡ y
  relabel_one l line = hands_one (λ a b r q. lines.relabels_one line r q)

  pub read_row_one : (l : LineEdition) (row : List ℕ) → Hands (ReadsRow l row room) room n x → Hands (ReadsRow l row room) room n y → x ≡ y
  read_row_one l row = hands_one (λ a b r q. rows.reads_row_one r q)

  pub write_row_one : (l : LineEdition) (stored : List ℕ) → Hands (WritesRow l stored room) room n x → Hands (WritesRow l stored room) room n y → x ≡ y
  write_row_one l stored = hands_one (λ a b r q. rows.writes_row_one r q)

  pub convert_row_one : (stored : List ℕ) → Hands (ConvertsRow stored room) room n x → Hands (ConvertsRow stored room) room n y → x ≡ y
  convert_row_one stored = hands_one (λ a b r q. rows.converts_row_one r q)

  pub relabel_row_one : (l : LineEdition) (row : List ℕ) → Hands (RelabelsRow l row room) room n x → Hands (RelabelsRow l row room) room n y → x ≡ y
  relabel_row_one l row = hands_one (λ a b r q. relabelled.relabels_row_one r q)
