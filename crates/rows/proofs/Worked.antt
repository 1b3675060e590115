-- Worked columns and rows. Assumes nothing.
use Prim.Native.Nat.{ℕ}
use Prim.Native.String.{String}
use mathlib.Core.Path.{◌≡◌, refl}
use mathlib.Core.Bool.{false}
use mathlib.Core.List.{List, [], ◌∷◌, ◌++◌, cons≢nil}
use native.Mathlib.Omega.{arith}
use lib.Dec.{T}
use Rattle.lang.specs.Digits.{value_from}
use Rattle.lang.specs.Parts.{written}
use Rattle.rules.specs.Bytes.{bytes}
use Rattle.rules.specs.Numbers.{digits, digits_in}
use Rattle.rules.specs.Decimals.{whole, last_digits, point_text}
use Rattle.rules.specs.Elements.{symbols}
use Rattle.rules.specs.Lines.{Spelling}
use Rattle.rules.specs.Stored.{stores}
use Rattle.rules.specs.Editions.{LineEdition}
use Rattle.rules.specs.Answers.{refuses}
use Rattle.rules.specs.Rows.{tab, RowSpelling, row_text, preferred_row, row_head}
use Rattle.rules.specs.RowAnswers.{lacks, no_tab, at_tab, GoodColumn, BadColumn, ReadsIntensity, ReadsRow}
use Rattle.rules.specs.Lists.{feed, RowsOf, no_rows, last_row, next_row}
use Rattle.rules.proofs.worked.Spell.{decimal, y}
use Rattle.rules.proofs.TableOf.{table_of}
use Rattle.numbers.specs.Leading.{leading}
use Rattle.numbers.specs.Making.{made_of}
use Rattle.numbers.specs.Points.{fraction, pointed, decimal_from, decimal_of}
use Rattle.read_row.specs.Columns.{begins_decimal, ends_column, is_column, good_column}
use Rattle.read_row.proofs.Decimals.{read_bad}

-- ---- columns

-- a column without a tab that is read as no decimal
bad : (w : String) → good_column (bytes w) ≡ false → T (lacks 9 (bytes w)) → BadColumn (bytes w)
bad w e l = read_bad (bytes w) e (no_tab l)

pub empty : BadColumn (bytes "")
unfolding good_column is_column begins_decimal ends_column decimal_of decimal_from leading fraction pointed made_of digits digits_in whole value_from
empty = bad "" refl tt

pub no_whole_number : BadColumn (bytes ".5")
unfolding good_column is_column begins_decimal ends_column decimal_of decimal_from leading fraction pointed made_of digits digits_in whole value_from
no_whole_number = bad ".5" refl tt

pub no_places : BadColumn (bytes "5.")
unfolding good_column is_column begins_decimal ends_column decimal_of decimal_from leading fraction pointed made_of digits digits_in whole value_from
no_places = bad "5." refl tt

pub leading_zero : BadColumn (bytes "05")
unfolding good_column is_column begins_decimal ends_column decimal_of decimal_from leading fraction pointed made_of digits digits_in whole value_from
leading_zero = bad "05" refl tt

pub signed : BadColumn (bytes "-5")
unfolding good_column is_column begins_decimal ends_column decimal_of decimal_from leading fraction pointed made_of digits digits_in whole value_from
signed = bad "-5" refl tt

pub with_exponent : BadColumn (bytes "5e3")
unfolding good_column is_column begins_decimal ends_column decimal_of decimal_from leading fraction pointed made_of digits digits_in whole value_from
with_exponent = bad "5e3" refl tt

pub thirteen_digits : BadColumn (bytes "1234567890123")
unfolding good_column is_column begins_decimal ends_column decimal_of decimal_from leading fraction pointed made_of digits digits_in whole value_from
thirteen_digits = bad "1234567890123" refl tt

pub ten_places : BadColumn (bytes "0.1234567890")
unfolding good_column is_column begins_decimal ends_column decimal_of decimal_from leading fraction pointed made_of digits digits_in whole value_from
ten_places = bad "0.1234567890" refl tt

pub twelve_digits : GoodColumn (bytes "123456789.012") (decimal 123456789012 3)
unfolding digits digits_in whole last_digits point_text
twelve_digits = record { text = refl; bounds = tt }

pub nine_places : GoodColumn (bytes "0.123456789") (decimal 123456789 9)
unfolding digits digits_in whole last_digits point_text
nine_places = record { text = refl; bounds = tt }

-- ---- refused rows

pub empty_row : {l : LineEdition} (room : ℕ) → ReadsRow l [] room (refuses room 12 0)
empty_row room = ReadsRow.bad (omega arith) (no_tab tt) empty

pub tab_alone : {l : LineEdition} (room : ℕ) → ReadsRow l tab room (refuses room 12 0)
tab_alone room = ReadsRow.bad (omega arith) (at_tab [] [] tt refl) empty

one : GoodColumn (bytes "1") (decimal 1 0)
unfolding digits digits_in whole last_digits point_text
one = record { text = refl; bounds = tt }

-- a good m/z without a tab: at the row's length
pub no_intensity : {l : LineEdition} (room : ℕ) → ReadsRow l (bytes "1") room (refuses room 13 1)
no_intensity room = ReadsRow.good (omega arith) (no_tab tt) one (ReadsIntensity.bad (no_tab tt) empty)

pub empty_intensity : {l : LineEdition} (room : ℕ) → ReadsRow l (bytes "1" ++ tab) room (refuses room 13 2)
empty_intensity room = ReadsRow.good (omega arith) (at_tab (bytes "1") [] tt refl) one (ReadsIntensity.bad (no_tab tt) empty)

-- ---- texts and heads

-- a row as it is written, the 20 bytes before its table, and its preferred text
pub record Written (bytes : List ℕ) (s : RowSpelling) (annotations : Spelling) (head best : List ℕ) : Type 0 where
  pub text : row_text s ≡ bytes
  pub first : stores (row_head s.mz s.intensity) ≡ head
  pub writes : preferred_row (record { mz = s.mz; intensity = s.intensity; table = table_of annotations }) ≡ best

pub labelled : Written (bytes "147.11" ++ (tab ++ (bytes "0.50" ++ (tab ++ bytes "y1"))))
    (record { mz = decimal 14711 2; intensity = decimal 50 2; third = written (y 1 ∷ []) }) (y 1 ∷ [])
    (119 ∷ 57 ∷ 0 ∷ 0 ∷ 0 ∷ 0 ∷ 0 ∷ 0 ∷ 50 ∷ 0 ∷ 0 ∷ 0 ∷ 0 ∷ 0 ∷ 0 ∷ 0 ∷ 2 ∷ 2 ∷ 0 ∷ 0 ∷ [])
    (bytes "147.11" ++ (tab ++ (bytes "0.50" ++ (tab ++ bytes "y1"))))
unfolding digits digits_in whole last_digits point_text symbols
labelled = record { text = refl; first = refl; writes = refl }

-- an empty third column is not written
pub empty_third : Written (bytes "1" ++ (tab ++ (bytes "2" ++ tab))) (record { mz = decimal 1 0; intensity = decimal 2 0; third = written [] }) []
    (1 ∷ 0 ∷ 0 ∷ 0 ∷ 0 ∷ 0 ∷ 0 ∷ 0 ∷ 2 ∷ 0 ∷ 0 ∷ 0 ∷ 0 ∷ 0 ∷ 0 ∷ 0 ∷ 0 ∷ 0 ∷ 0 ∷ 0 ∷ [])
    (bytes "1" ++ (tab ++ bytes "2"))
unfolding digits digits_in whole last_digits point_text symbols
empty_third = record { text = refl; first = refl; writes = refl }

-- ---- rows of lists

pub no_list : RowsOf [] []
no_list = no_rows

-- the last line feed is missing
pub two_rows : RowsOf (bytes "a" ++ (feed ++ bytes "b")) (bytes "a" ∷ bytes "b" ∷ [])
two_rows = next_row (bytes "a") tt refl (last_row cons≢nil tt)

-- a line feed alone is an empty row, and none behind it
pub empty_rows : RowsOf (feed ++ feed) ([] ∷ [] ∷ [])
empty_rows = next_row [] tt refl (next_row [] tt refl no_rows)
