-- Document 02, M-101, M-112 and M-113: what reading, writing and converting a row answer, and every byte of the output. Assumes nothing.
use Rattle.std.specs.Prelude.{ℕ, ◌+◌, ◌-◌, ◌<◌, ◌≤◌, ◌≡◌, Bool, true, not, ◌&&◌, List, [], ◌∷◌, ◌++◌, T, eqb, length}
use Rattle.rules.specs.Decimals.{Decimal, decimal_text}
use Rattle.rules.specs.Lines.{within}
use Rattle.rules.specs.Limits as Limits
use Rattle.rules.specs.Limits.{max_line}
use Rattle.rules.specs.Preferred.{preferred, preferred_spelling}
use Rattle.rules.specs.Stored.{stores}
use Rattle.rules.specs.Answers.{Answer, refuses, Delivers, Reads, ReadsForm, Sound, Holds}
use Rattle.rules.specs.Editions.{Edition, ed1, current, LineEdition}
use Rattle.rules.specs.Rows.{tab, Row, preferred_row, row_head_size, row_head}

-- a row is at most 4,160 bytes
abbrev pub max_row : ℕ
max_row = 4160

-- ---- columns

-- no byte of w is b
abbrev pub lacks : ℕ → List ℕ → Bool
lacks b [] = true
lacks b (c ∷ w) = not (eqb c b) && lacks b w

-- the column that bytes begin with ends at their first tab, or at their end: the column, what stands behind its tab, and where
pub data Cut (bytes : List ℕ) : List ℕ → List ℕ → ℕ → Type 0 where
  at_tab : (column more : List ℕ) → T (lacks 9 column) → column ++ (tab ++ more) ≡ bytes → Cut bytes column more (length column + 1)
  no_tab : T (lacks 9 bytes) → Cut bytes bytes [] (length bytes)

-- a good column is a decimal within its bounds
pub record GoodColumn (column : List ℕ) (d : Decimal) : Type 0 where
  pub text : decimal_text d ≡ column
  pub bounds : T (Limits.fits d)

abbrev pub BadColumn : List ℕ → Type 0
BadColumn column = (d : Decimal) → GoodColumn column d → ⊥

-- ---- reading: 1; then 12; then 13; then the line's own

-- the answer to a row, by the answer to its third column, which begins at a place: its output stands behind the head
pub data Moves (head : List ℕ) (at room : ℕ) (line : Answer) : Answer → Type 0 where
  done : line.number ≡ 0
      → Moves head at room line (record { number = 0; place = 0; size = row_head_size + line.size; out = head ++ line.out })
  no_room : line.number ≡ 8 → Moves head at room line (refuses room 8 (row_head_size + line.place))
  refused : (line.number ≡ 0 → ⊥) → (line.number ≡ 8 → ⊥) → Moves head at room line (refuses room line.number (at + line.place))

-- of a row with both numbers, whose third column, empty where there is none, begins at a place
pub data ReadsThird (l : LineEdition) (mz intensity : Decimal) (third : List ℕ) (at room : ℕ) : Answer → Type 0 where
  line : {b a : Answer} → Reads l third (room - row_head_size) b → Moves (stores (row_head mz intensity)) at room b a → ReadsThird l mz intensity third at room a

-- of a row with a good m/z, behind whose tab these bytes begin at a place
pub data ReadsIntensity (l : LineEdition) (mz : Decimal) (bytes : List ℕ) (at room : ℕ) : Answer → Type 0 where
  bad : {column third : List ℕ} {place : ℕ} → Cut bytes column third place → BadColumn column → ReadsIntensity l mz bytes at room (refuses room 13 at)
  good : {column third : List ℕ} {place : ℕ} → Cut bytes column third place → {intensity : Decimal} → GoodColumn column intensity
      → {a : Answer} → ReadsThird l mz intensity third (at + place) room a → ReadsIntensity l mz bytes at room a

-- in an edition of lines
pub data ReadsRow (l : LineEdition) (row : List ℕ) (room : ℕ) : Answer → Type 0 where
  long : max_row < length row → ReadsRow l row room (refuses room 1 max_row)
  bad : length row ≤ max_row → {column more : List ℕ} {place : ℕ} → Cut row column more place → BadColumn column → ReadsRow l row room (refuses room 12 0)
  good : length row ≤ max_row → {column more : List ℕ} {place : ℕ} → Cut row column more place → {mz : Decimal} → GoodColumn column mz
      → {a : Answer} → ReadsIntensity l mz more place room a → ReadsRow l row room a

-- ---- writing: 9, 10, 20, 1, 8

-- stored bytes are a row: its head, and behind it a table of an edition
pub record HoldsRow (e : Edition) (bytes : List ℕ) (r : Row) : Type 0 where
  pub mz : T (Limits.fits r.mz)
  pub intensity : T (Limits.fits r.intensity)
  pub rest : List ℕ
  pub table : Holds e rest r.table
  pub is : stores (row_head r.mz r.intensity) ++ rest ≡ bytes

-- stored bytes are a row that can be read today, as Takes has it of its table
pub record TakesRow (bytes : List ℕ) (r : Row) : Type 0 where
  pub edition : Edition
  pub holds : HoldsRow edition bytes r
  pub also : Sound current r.table

-- in an edition of lines
pub data WritesRow (l : LineEdition) (bytes : List ℕ) (room : ℕ) : Answer → Type 0 where
  no_row : ((r : Row) → TakesRow bytes r → ⊥) → WritesRow l bytes room (refuses room 9 0)
  old : (r : Row) → HoldsRow ed1 bytes r → Sound current r.table → WritesRow l bytes room (refuses room 10 0)
  lettered : (r : Row) → HoldsRow current bytes r → (T (within l (preferred_spelling r.table)) → ⊥) → WritesRow l bytes room (refuses room 20 0)
  long : (r : Row) → HoldsRow current bytes r → T (within l (preferred_spelling r.table)) → max_line < length (preferred r.table)
      → WritesRow l bytes room (refuses room 1 max_line)
  fits : (r : Row) → HoldsRow current bytes r → T (within l (preferred_spelling r.table)) → length (preferred r.table) ≤ max_line
      → {a : Answer} → Delivers room (preferred_row r) a → WritesRow l bytes room a

-- ---- converting a row whose table is of edition 1: 9; then 11, 6, 8

-- where the third column of a row begins, in its preferred spelling
abbrev pub third_at : Row → ℕ
third_at r = length (decimal_text r.mz ++ (tab ++ (decimal_text r.intensity ++ tab)))

pub data ConvertsRow (bytes : List ℕ) (room : ℕ) : Answer → Type 0 where
  no_row : ((r : Row) → HoldsRow ed1 bytes r → ⊥) → ConvertsRow bytes room (refuses room 9 0)
  held : (r : Row) → HoldsRow ed1 bytes r → {b a : Answer} → ReadsForm current (preferred_spelling r.table) (room - row_head_size) b
      → Moves (stores (row_head r.mz r.intensity)) (third_at r) room b a → ConvertsRow bytes room a
