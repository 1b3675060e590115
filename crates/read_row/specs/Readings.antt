-- The answer to a row, by what its columns are read as. Assumes nothing.
use Rattle.std.specs.Prelude.{ℕ, ◌+◌, ◌-◌, min, cond, List, ◌++◌, eqb, ltb, length, drop, Result, Ok, Err}
use Rattle.std.proofs.lemmas.List.Edits.{sets}
use Rattle.rules.specs.Stored.{stores}
use Rattle.rules.specs.Answers as rules
use Rattle.rules.specs.Answers.{refuses}
use Rattle.rules.specs.Rows.{row_head_size, row_head}
use Rattle.rules.specs.RowAnswers.{max_row}
use Rattle.scan_line.specs.Steps.{scanned_by}
use Rattle.numbers.specs.declared.Decimal.{Decimal}
use Rattle.numbers.specs.Making.{ruled}
use Rattle.read_line.specs.Readings.{read_of}
use Rattle.read_row.specs.declared.Column.{Column}
use Rattle.faults.specs.Refusals.{number_of}
use Rattle.answers.specs.Delivered.{Answer}
use Rattle.answers.specs.Behind.{capped}
use Rattle.read_row.specs.Columns.{column_of}

abbrev pub head_bytes : Decimal → Decimal → List ℕ
head_bytes mz intensity = stores (row_head (ruled mz) (ruled intensity))

-- ---- over an output d, in which a table stands where it is to be, behind the head

-- with its head the row has so many bytes
abbrev pub filled_over : List ℕ → List ℕ → ℕ → rules.Answer
filled_over d head size =
    cond (ltb (length d) size) (refuses (length d) 8 size) (record { number = 0; place = 0; size = size; out = sets d 0 head })

-- the line, which begins at a place, was answered so
unfoldable pub ended_over : List ℕ → List ℕ → ℕ → Answer → rules.Answer
ended_over d head at (Ok n) = filled_over d head (capped row_head_size n)
ended_over d head at (Err r) =
    cond (eqb (number_of r.why) 8) (refuses (length d) 8 (capped row_head_size r.place)) (refuses (length d) (number_of r.why) (capped at r.place))

-- ---- the whole

-- a table of n bytes, in an output `table`, behind the head
abbrev pub headed_of : List ℕ → ℕ → ℕ → List ℕ → rules.Answer
headed_of head room n table =
    cond (ltb room (capped row_head_size n)) (refuses room 8 (capped row_head_size n))
    (record { number = 0; place = 0; size = capped row_head_size n; out = head ++ table })

-- the answer to the third column, which begins at a place, moved
unfoldable pub moved_of : List ℕ → ℕ → ℕ → rules.Answer → rules.Answer
moved_of head at room b =
    cond (eqb b.number 0) (headed_of head room b.size b.out)
    (cond (eqb b.number 8) (refuses room 8 (capped row_head_size b.place)) (refuses room b.number (capped at b.place)))

unfoldable pub third_of : List ℕ → Decimal → Decimal → List ℕ → ℕ → ℕ → rules.Answer
third_of machine mz intensity third at room =
    moved_of (head_bytes mz intensity) at room (read_of (scanned_by machine third) third (room - row_head_size))

-- of a row with m/z, where the intensity begins at a place and was read
abbrev pub intensity_in : List ℕ → List ℕ → ℕ → Decimal → ℕ → Result Column Column → rules.Answer
intensity_in machine row at mz room (Ok c) = let to = min (at + c.next) (length row) in third_of machine mz c.decimal (drop to row) to room
intensity_in machine row at mz room (Err c) = refuses room 13 at

unfoldable pub intensity_of : List ℕ → List ℕ → ℕ → Decimal → ℕ → rules.Answer
intensity_of machine row at mz room = intensity_in machine row at mz room (column_of (drop at row))

-- of a row whose m/z was read
abbrev pub mz_in : List ℕ → List ℕ → ℕ → Result Column Column → rules.Answer
mz_in machine row room (Ok c) = intensity_of machine row c.next c.decimal room
mz_in machine row room (Err c) = refuses room 12 0

unfoldable pub read_row_of : List ℕ → List ℕ → ℕ → rules.Answer
read_row_of machine row room = cond (ltb max_row (length row)) (refuses room 1 max_row) (mz_in machine row room (column_of row))
