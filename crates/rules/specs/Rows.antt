-- Document 02, M-101: a row of a peak list is m/z, a tab, intensity, and perhaps a tab and, to the row's end, an annotation line.
-- Both numbers are decimals of document 01, unsigned. No third column, or an empty one, means no annotations. Assumes nothing.
use Rattle.std.specs.Prelude.{ℕ, ◌≡◌, List, [], ◌∷◌, ◌++◌, T}
use Rattle.lang.specs.Parts.{Opt, silent, written, opt_text}
use Rattle.lang.specs.Order.{Each}
use Rattle.rules.specs.Decimals.{Decimal, decimal_text}
use Rattle.rules.specs.Lines.{Spelling, line_text, within}
use Rattle.rules.specs.Preferred.{preferred_spelling}
use Rattle.rules.specs.Fields.{Table, Says}
use Rattle.rules.specs.Stored.{Field, u8, u16, u64, stores, stored}
use Rattle.rules.specs.Editions.{LineEdition, current}

abbrev pub tab : List ℕ
tab = 9 ∷ []

-- ---- a row as it is written

-- the third column is left out, or there and perhaps empty
pub record RowSpelling : Type 0 where
  pub mz : Decimal
  pub intensity : Decimal
  pub third : Opt Spelling

abbrev pub third_text : Spelling → List ℕ
third_text s = tab ++ line_text s

abbrev pub row_text : RowSpelling → List ℕ
row_text r = decimal_text r.mz ++ (tab ++ (decimal_text r.intensity ++ opt_text third_text r.third))

-- ---- what it means

pub record Row : Type 0 where
  pub mz : Decimal
  pub intensity : Decimal
  pub table : Table

-- the annotations of a third column
abbrev pub annotations : Opt Spelling → Spelling
annotations silent = []
annotations (written s) = s

-- a row as it is written, and what it means
pub record SaysRow (s : RowSpelling) (r : Row) : Type 0 where
  pub mz : s.mz ≡ r.mz
  pub intensity : s.intensity ≡ r.intensity
  pub table : Each Says (annotations s.third) r.table

-- some spelling of the bytes, in an edition of lines, means the row
pub record SpellsRow (l : LineEdition) (r : Row) (bytes : List ℕ) : Type 0 where
  pub spelling : RowSpelling
  pub edition : T (within l (annotations spelling.third))
  pub text : row_text spelling ≡ bytes
  pub says : SaysRow spelling r

-- ---- the preferred spelling

-- an empty third column is never written
abbrev pub preferred_third : Table → Opt Spelling
preferred_third [] = silent
preferred_third (a ∷ t) = written (preferred_spelling (a ∷ t))

abbrev pub preferred_row_spelling : Row → RowSpelling
preferred_row_spelling r = record { mz = r.mz; intensity = r.intensity; third = preferred_third r.table }

abbrev pub preferred_row : Row → List ℕ
preferred_row r = row_text (preferred_row_spelling r)

-- ---- the stored row: 20 bytes, and then the table

abbrev pub row_head_size : ℕ
row_head_size = 20

-- both numbers without their points, how many decimals each has, and zero
abbrev pub row_head : Decimal → Decimal → List Field
row_head mz intensity = u64 mz.value ∷ u64 intensity.value ∷ u8 mz.places ∷ u8 intensity.places ∷ u16 0 ∷ []

abbrev pub stored_row : Row → List ℕ
stored_row r = stores (row_head r.mz r.intensity) ++ stored current r.table
