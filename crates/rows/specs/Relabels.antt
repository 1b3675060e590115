-- The preferred spelling of a row. Assumes nothing.
use Rattle.std.specs.Prelude.{ℕ, ◌+◌, ◌≡◌, List, take}
use Rattle.rules.specs.Editions.{LineEdition}
use Rattle.rules.specs.Answers.{Answer, refuses}
use Rattle.rules.specs.Largest.{max_table}
use Rattle.rules.specs.Rows.{row_head_size}
use Rattle.rules.specs.RowAnswers.{ReadsRow, WritesRow}

-- of the stored row of a row that is read: 21,392 bytes
abbrev pub max_stored_row : ℕ
max_stored_row = row_head_size + max_table

-- what reading the row, in an edition of lines, and writing its stored row answer: the refusal of reading, or what writing gives for the stored row that was read
pub data RelabelsRow (l : LineEdition) (row : List ℕ) (room : ℕ) : Answer → Type 0 where
  refused : {a : Answer} → ReadsRow l row max_stored_row a → (a.number ≡ 0 → ⊥) → RelabelsRow l row room (refuses room a.number a.place)
  relabelled : {a b : Answer} → ReadsRow l row max_stored_row a → a.number ≡ 0 → WritesRow l (take a.size a.out) room b → RelabelsRow l row room b
