-- The answer to bytes that may be a stored row whose table is of edition 1. Assumes nothing.
use Rattle.std.specs.Prelude.{ℕ, ◌-◌, cond, List, eqb, length, drop, Result, Ok, Err}
use Rattle.rules.specs.Answers.{Answer, refuses}
use Rattle.rules.specs.Rows.{row_head_size}
use Rattle.numbers.specs.declared.Decimal.{Decimal}
use Rattle.answers.specs.Behind.{capped}
use Rattle.write_table.specs.Writings.{converted_of}
use Rattle.read_row.specs.Readings.{head_bytes, moved_of}
use Rattle.write_row.specs.declared.Head.{Head}
use Rattle.write_row.specs.Writings.{head_of, columns_text}

-- where the third column begins: behind the first two and a tab
unfoldable pub third_place : Decimal → Decimal → ℕ
third_place mz intensity = capped (capped 0 (length (columns_text mz intensity))) 1

-- the answer to the table, whose line begins at a place, becomes that to the row
unfoldable pub held_of : List ℕ → ℕ → ℕ → Answer → Answer
held_of head at room b = cond (eqb b.number 9) (refuses room 9 0) (moved_of head at room b)

-- of a row whose head was read
abbrev pub converted_in : List ℕ → List ℕ → ℕ → Result Head Head → Answer
converted_in machine s room (Ok h) =
    held_of (head_bytes h.mz h.intensity) (third_place h.mz h.intensity) room (converted_of machine (drop row_head_size s) (room - row_head_size))
converted_in machine s room (Err h) = refuses room 9 0

unfoldable pub convert_row_of : List ℕ → List ℕ → ℕ → Answer
convert_row_of machine s room = converted_in machine s room (head_of s)
