-- The column that bytes begin with, read as a decimal. Assumes nothing.
use Rattle.std.specs.Prelude.{ℕ, ◌+◌, min, Bool, true, false, cond, not, List, [], ◌∷◌, eqb, length, drop, is_some, Result, Ok, Err}
use Rattle.rules.specs.Bytes.{bytes, ◌to◌, digit}
use Rattle.rules.specs.Texts.{first_in, starts_with}
use Rattle.numbers.specs.declared.DecimalRead.{DecimalRead}
use Rattle.numbers.specs.Making.{made_decimal}
use Rattle.numbers.specs.declared.FirstByte.TheVariants.{Digit}
use Rattle.numbers.specs.Points.{decimal_of}
use Rattle.read_row.specs.declared.Column.{Column}

-- a decimal begins with a digit that is not 0, or with a 0 and no digit behind it
unfoldable pub begins_decimal : List ℕ → Bool
begins_decimal s = cond (first_in ("1" to "9" ∷ []) s) true (cond (starts_with (bytes "0") s) (not (first_in digit (drop 1 s))) false)

-- a column ends here: at the end of its row, or at a tab
unfoldable pub ends_column : List ℕ → Bool
ends_column [] = true
ends_column (b ∷ s) = eqb b 9

-- the bytes begin with a decimal, as it was read, and a column ends behind it
unfoldable pub is_column : List ℕ → DecimalRead → Bool
is_column s d = cond (begins_decimal s) (cond (is_some d.made) (ends_column (drop d.len s)) false) false

-- the bytes begin with a column
unfoldable pub good_column : List ℕ → Bool
good_column s = is_column s (decimal_of Digit s)

-- its decimal, how many bytes that has, and where what stands behind its tab begins
unfoldable pub column_in : List ℕ → Column
column_in s =
    record {
      decimal = made_decimal (decimal_of Digit s).made;
      len = (decimal_of Digit s).len;
      next = min ((decimal_of Digit s).len + 1) (length s);
    }

-- the column that the bytes begin with, or what was read of a bad one
abbrev pub column_of : List ℕ → Result Column Column
column_of s = cond (good_column s) (Ok (column_in s)) (Err (column_in s))
