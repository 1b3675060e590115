-- Document 02, M-101: a peak list. Rows end at line feeds, one missing after a last row being added first; empty input has no rows.
-- Each row has an answer of its own. Assumes nothing.
use Rattle.std.specs.Prelude.{ℕ, ◌≡◌, List, [], ◌∷◌, ◌++◌, T}
use Rattle.lang.specs.Parts.{flat}
use Rattle.lang.specs.Order.{Each}
use Rattle.rules.specs.Editions.{LineEdition}
use Rattle.rules.specs.Answers.{Answer}
use Rattle.rules.specs.RowAnswers.{lacks, ReadsRow}

abbrev pub feed : List ℕ
feed = 10 ∷ []

-- the rows of a list of bytes
pub data RowsOf : List ℕ → List (List ℕ) → Type 0 where
  no_rows : RowsOf [] []
  last_row : {row : List ℕ} → (row ≡ [] → ⊥) → T (lacks 10 row) → RowsOf row (row ∷ [])
  next_row : {list more : List ℕ} {rows : List (List ℕ)} → (row : List ℕ) → T (lacks 10 row) → row ++ (feed ++ more) ≡ list
      → RowsOf more rows → RowsOf list (row ∷ rows)

-- a list is written by a line feed behind each row
abbrev pub list_text : List (List ℕ) → List ℕ
list_text rows = flat (λ row. row ++ feed) rows

-- the answers to a list, in an edition of lines: to each row what it gets alone
pub record ReadsList (l : LineEdition) (list : List ℕ) (room : ℕ) (answers : List Answer) : Type 0 where
  pub rows : List (List ℕ)
  pub are : RowsOf list rows
  pub each : Each (λ row a. ReadsRow l row room a) rows answers
