-- A worked line: one of its spellings, which breaks no limit and no rule, the bytes of its table, and the line that the table is
-- written as. The bytes in the rows are those of an independent implementation of document 01. Assumes nothing.
use Prim.Native.Nat.{ℕ}
use Prim.Native.String.{String}
use mathlib.Core.Path.{◌≡◌}
use mathlib.Core.Bool.{true, false}
use mathlib.Core.List.{List, [], ◌∷◌}
use lib.ListN.{length}
use Rattle.lang.specs.Mark.{Mark}
use Rattle.lang.specs.Parts.{silent}
use Rattle.rules.specs.Bytes.{bytes}
use Rattle.rules.specs.Lines.{Spelling, line_text}
use Rattle.rules.specs.Limits.{line_marks}
use Rattle.rules.specs.House.{first_foreign, first_breach, first_excess}
use Rattle.rules.specs.Preferred.{preferred}
use Rattle.rules.specs.Stored.{stored}
use Rattle.rules.specs.Editions.{current}
use Rattle.rules.proofs.TableOf.{table_of}

-- the limits that are broken
abbrev pub broken : List Mark → List Mark
broken [] = []
broken (m ∷ ms) = elim m.broken [ true ↦ m ∷ broken ms | false ↦ broken ms ]

pub record Worked (line : String) (s : Spelling) (size : ℕ) (table : List ℕ) (best : String) : Type 0 where
  pub text : line_text s ≡ bytes line
  pub limits : broken (line_marks s) ≡ []
  pub form : first_foreign current 0 s ≡ silent
  pub rules : first_breach current 0 s ≡ silent
  pub sum : first_excess 0 0 s ≡ silent
  pub long : length table ≡ size
  pub stores : stored current (table_of s) ≡ table
  pub writes : preferred (table_of s) ≡ bytes best
