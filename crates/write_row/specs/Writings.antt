-- The answer to bytes that may be a stored row. Assumes nothing.
use Rattle.std.specs.Prelude.{ℕ, ◌-◌, Bool, false, cond, List, ◌++◌, eqb, ltb, length, get_or, drop, replicate, Option, is_some, Result, Ok, Err}
use Rattle.std.proofs.lemmas.List.Edits.{sets}
use Rattle.rules.specs.Decimals.{decimal_text}
use Rattle.rules.specs.Answers as rules
use Rattle.rules.specs.Answers.{refuses}
use Rattle.rules.specs.Rows.{tab, row_head_size}
use Rattle.slices.specs.Numbers.{u16_at, u64_at}
use Rattle.numbers.specs.declared.Decimal.{Decimal}
use Rattle.numbers.specs.Making.{ruled, made_of, made_decimal}
use Rattle.faults.specs.Refusals.{number_of}
use Rattle.answers.specs.Delivered.{Answer}
use Rattle.put_bytes.specs.Puts.{cleared}
use Rattle.write_table.specs.Writings.{written_of}
use Rattle.write_row.specs.declared.Head.{Head}
use Rattle.write_row.specs.Heads.{intensity_at, mz_places_at, intensity_places_at, zero_at}
use Rattle.answers.specs.Behind.{capped}

-- 20 bytes are there, both numbers are within their bounds, and the last two bytes are zero
unfoldable pub is_head : List ℕ → Option Decimal → Option Decimal → Bool
is_head s mz intensity =
    cond (ltb (length s) row_head_size) false (cond (is_some mz) (cond (is_some intensity) (eqb (u16_at (drop zero_at s)) 0) false) false)

abbrev pub mz_in : List ℕ → Option Decimal
mz_in s = made_of (u64_at s) (get_or s mz_places_at 0)

abbrev pub intensity_in : List ℕ → Option Decimal
intensity_in s = made_of (u64_at (drop intensity_at s)) (get_or s intensity_places_at 0)

unfoldable pub good_head : List ℕ → Bool
good_head s = is_head s (mz_in s) (intensity_in s)

unfoldable pub head_in : List ℕ → Head
head_in s = record { mz = made_decimal (mz_in s); intensity = made_decimal (intensity_in s) }

-- the head that the bytes begin with, or what was read of a bad one
abbrev pub head_of : List ℕ → Result Head Head
head_of s = cond (good_head s) (Ok (head_in s)) (Err (head_in s))

-- the first two columns
unfoldable pub columns_text : Decimal → Decimal → List ℕ
columns_text mz intensity = decimal_text (ruled mz) ++ (tab ++ decimal_text (ruled intensity))

-- ---- over an output d, in which the columns end at a place and the line stands behind the byte there

-- no line
unfoldable pub bare_over : List ℕ → ℕ → rules.Answer
bare_over d to = cond (ltb (length d) to) (refuses (length d) 8 to) (record { number = 0; place = 0; size = to; out = cleared d to })

-- a line of n bytes
unfoldable pub labelled_over : List ℕ → ℕ → ℕ → rules.Answer
labelled_over d to n =
    let size = capped (capped to 1) n in
    cond (ltb (length d) size) (refuses (length d) 8 size) (record { number = 0; place = 0; size = size; out = sets d to tab })

-- the line was answered so
unfoldable pub finished_over : List ℕ → ℕ → Answer → rules.Answer
finished_over d to (Ok n) = cond (eqb n 0) (bare_over d to) (labelled_over d to n)
finished_over d to (Err r) =
    cond (eqb (number_of r.why) 8) (refuses (length d) 8 (capped (capped to 1) r.place)) (refuses (length d) (number_of r.why) r.place)

-- ---- the whole

-- columns that end at a place, and no line behind them
abbrev pub bare_of : List ℕ → ℕ → ℕ → rules.Answer
bare_of columns to room =
    cond (ltb room to) (refuses room 8 to) (record { number = 0; place = 0; size = to; out = columns ++ replicate (room - to) 0 })

-- columns, a tab, and a line of n bytes in an output `line`
abbrev pub labelled_of : List ℕ → ℕ → ℕ → ℕ → List ℕ → rules.Answer
labelled_of columns to room n line =
    cond (ltb room (capped to n)) (refuses room 8 (capped to n)) (record { number = 0; place = 0; size = capped to n; out = columns ++ (tab ++ line) })

-- the answer to the table, whose line is to stand behind the columns, which end at a place, and a tab
unfoldable pub behind_of : List ℕ → ℕ → ℕ → rules.Answer → rules.Answer
behind_of columns to room b =
    cond (eqb b.number 0)
    (cond (eqb b.size 0) (bare_of columns to room) (labelled_of columns (capped to 1) room b.size b.out))
    (cond (eqb b.number 8) (refuses room 8 (capped (capped to 1) b.place)) (refuses room b.number b.place))

-- of a row whose head was read
abbrev pub headed_of : List ℕ → List ℕ → ℕ → Result Head Head → rules.Answer
headed_of machine s room (Ok h) =
    let columns = columns_text h.mz h.intensity in
    let to = capped 0 (length columns) in
    behind_of columns to room (written_of machine (drop row_head_size s) (room - capped to 1))
headed_of machine s room (Err h) = refuses room 9 0

unfoldable pub write_row_of : List ℕ → List ℕ → ℕ → rules.Answer
write_row_of machine s room = headed_of machine s room (head_of s)
