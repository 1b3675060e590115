-- What is read into the first bytes of a table is what its line asks for. Assumes nothing.
use Prim.Native.Nat.{ℕ}
use mathlib.Core.Path.{◌≡◌, refl, sym, ap, ◌∙◌, subst}
use mathlib.Core.Bool.{Bool, true, false}
use mathlib.Core.List.{List, [], ◌++◌, append-nil}
use native.Mathlib.Omega.{arith}
use lib.ListN.{length, take, drop, drop_of_length-le}
use lib.Seq.{take_at, drop_at, length-take-le}
use Rattle.rules.specs.Answers as rules
use Rattle.scan_line.specs.Steps.{scanned_by}
use Rattle.read_line.specs.Readings.{read_of}
use Rattle.read_row.specs.Readings.{read_row_of}
use Rattle.answers.specs.Delivered.{Answer, answered}
use Rattle.io_answers.specs.Asked.{behind_size, asked_in, room_in}
use Rattle.run_program.specs.declared.Input.{Input}
use Rattle.run_program.specs.declared.Input.TheVariants.{Lines, Rows}
use Rattle.run_reads.specs.Reads.{read_as, ReadInto}

-- where the first bytes of table d are p, and all behind them is as it was
read_into : (sized : Bool) (asked d line p : List ℕ) (room : ℕ) {input : Input} {m e : List ℕ} {r : Answer} → line ≡ asked_in sized asked
    → room ≡ room_in sized asked (length d) → length p ≡ room → answered r p ≡ read_as input m line room → e ≡ p ++ drop room d
    → ReadInto input m asked sized d e r
read_into sized asked d line p room {input} {m} {e} {r} at bytes long is made =
    let k = room_in sized asked (length d) in
    let want = asked_in sized asked in
    let l : length p ≡ k = long ∙ bytes in
    let h : e ≡ p ++ drop k d = made ∙ ap (λ (i : ℕ). p ++ drop i d) bytes in
    record {
      read =
          ap (answered r) (ap (take k) h ∙ take_at p (drop k d) k l) ∙ is
          ∙ ap (λ (w : List ℕ). read_as input m w room) at ∙ ap (read_as input m want) bytes;
      kept = ap (drop k) h ∙ drop_at p (drop k d) k l;
    }

-- a table that is lent whole
pub read_whole : (asked d e : List ℕ) {input : Input} {m : List ℕ} {r : Answer} → length e ≡ length d → answered r e ≡ read_as input m asked (length d)
    → ReadInto input m asked false d e r
read_whole asked d e long is =
    let none : drop (length d) d ≡ [] = drop_of_length-le d {i = length d} (omega arith) in
    read_into false asked d asked e (length d) refl refl long is (sym (ap (λ (l : List ℕ). e ++ l) none ∙ append-nil e))

-- the part of a table that is lent, and the line behind a number and a blank
pub read_behind : (asked d : List ℕ) (bytes : ℕ) {input : Input} {m line p e : List ℕ} {r : Answer} → line ≡ behind_size asked → bytes ≡ room_in true asked (length d)
    → answered r p ≡ read_as input m line (length (take bytes d)) → length p ≡ length (take bytes d) → e ≡ p ++ drop bytes d
    → ReadInto input m asked true d e r
read_behind asked d bytes {input} {m} {line} {p} at room is long made =
    let lent : length (take bytes d) ≡ bytes = length-take-le bytes d (omega (arith, room)) in
    read_into true asked d line p bytes at room (long ∙ lent) (is ∙ ap (read_as input m line) lent) made

-- whether lines are sized was tested
pub read_tested : {input : Input} {m asked d e : List ℕ} {r : Answer} {a b : Bool} → a ≡ b → ReadInto input m asked b d e r → ReadInto input m asked a d e r
read_tested {input} {m} {asked} {d} {e} {r} h = subst (λ (x : Bool). ReadInto input m asked x d e r) (sym h)

-- what the lines are was tested
pub read_lines : {input : Input} (m line : List ℕ) (room : ℕ) {a : rules.Answer} → input ≡ Lines → a ≡ read_of (scanned_by m line) line room
    → a ≡ read_as input m line room
unfolding read_as
read_lines m line room h e = e ∙ ap (λ (i : Input). read_as i m line room) (sym h)

pub read_rows : {input : Input} (m line : List ℕ) (room : ℕ) {a : rules.Answer} → input ≡ Rows → a ≡ read_row_of m line room → a ≡ read_as input m line room
unfolding read_as
read_rows m line room h e = e ∙ ap (λ (i : Input). read_as i m line room) (sym h)
