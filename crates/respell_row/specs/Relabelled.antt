-- The answer to a row that is relabelled, by what its columns are read as and its line is relabelled to. Assumes nothing.
use Rattle.std.specs.Prelude.{ℕ, ◌+◌, ◌-◌, min, cond, List, ◌++◌, eqb, ltb, leb, length, take, drop, replicate, Result, Ok, Err}
use Rattle.rules.specs.Limits.{max_line}
use Rattle.rules.specs.Answers as rules
use Rattle.rules.specs.Answers.{refuses}
use Rattle.rules.specs.RowAnswers.{max_row}
use Rattle.scan_line.specs.Steps.{scanned_by}
use Rattle.faults.specs.declared.Refusal.{Refusal}
use Rattle.faults.specs.Refusals.{number_of}
use Rattle.answers.specs.Delivered.{Answer}
use Rattle.answers.specs.Behind.{capped}
use Rattle.lines.specs.Relabels.{relabelled_of}
use Rattle.read_row.specs.declared.Column.{Column}
use Rattle.read_row.specs.Columns.{column_of}
use Rattle.write_row.specs.Writings.{bare_of}

-- where the refusal of a line of n bytes that begins at a place stands in the row: 1 of a line that is not too long is that of writing, and
-- is not moved
unfoldable pub place_of : ℕ → ℕ → ℕ → ℕ → ℕ
place_of number place n at = cond (eqb number 1) (cond (ltb max_line n) (capped at place) place) (capped at place)

-- ---- over an output d, in which a line of n bytes was relabelled behind the first bytes, up to a place

-- it was refused
unfoldable pub refused_over : List ℕ → ℕ → ℕ → Refusal → rules.Answer
refused_over d at n r =
    record { number = number_of r.why; place = place_of (number_of r.why) r.place n at; size = 0; out = replicate (min at (length d)) 0 ++ drop at d }

-- it was answered so
unfoldable pub finished_over : List ℕ → ℕ → ℕ → Answer → rules.Answer
finished_over d at n (Ok m) =
    let size = capped at m in cond (ltb (length d) size) (refuses (length d) 8 size) (record { number = 0; place = 0; size = size; out = d })
finished_over d at n (Err r) = refused_over d at n r

-- ---- the whole

-- the bytes of a row before its third column, of n bytes, and the answer to that
unfoldable pub spelled_of : List ℕ → ℕ → ℕ → rules.Answer → rules.Answer
spelled_of front n room b =
    let at = length front in
    let size = capped at b.size in
    cond (eqb b.number 0)
    (cond (ltb room size) (refuses room 8 size) (record { number = 0; place = 0; size = size; out = front ++ b.out }))
    (record { number = b.number; place = place_of b.number b.place n at; size = 0; out = replicate (min at room) 0 ++ b.out })

-- of a row whose third column begins at a place
unfoldable pub third_of : List ℕ → List ℕ → ℕ → ℕ → rules.Answer
third_of machine row at room =
    let third = drop at row in
    let front = take at row in
    spelled_of front (length third) room (relabelled_of (scanned_by machine third) third (room - length front))

-- of a row whose second column ends at a place, and whose third begins at another: where that is empty, the two alone
unfoldable pub columns_of : List ℕ → List ℕ → ℕ → ℕ → ℕ → rules.Answer
columns_of machine row end at room = cond (leb (length row) at) (bare_of (take end row) (length (take end row)) room) (third_of machine row at room)

-- of a row with m/z, where the intensity begins at a place and was read
abbrev pub intensity_in : List ℕ → List ℕ → ℕ → ℕ → Result Column Column → rules.Answer
intensity_in machine row at room (Ok c) = columns_of machine row (min (at + c.len) (length row)) (min (at + c.next) (length row)) room
intensity_in machine row at room (Err c) = refuses room 13 at

unfoldable pub intensity_of : List ℕ → List ℕ → ℕ → ℕ → rules.Answer
intensity_of machine row at room = intensity_in machine row at room (column_of (drop at row))

-- of a row whose m/z was read
abbrev pub mz_in : List ℕ → List ℕ → ℕ → Result Column Column → rules.Answer
mz_in machine row room (Ok c) = intensity_of machine row c.next room
mz_in machine row room (Err c) = refuses room 12 0

unfoldable pub relabelled_row_of : List ℕ → List ℕ → ℕ → rules.Answer
relabelled_row_of machine row room = cond (ltb max_row (length row)) (refuses room 1 max_row) (mz_in machine row room (column_of row))
