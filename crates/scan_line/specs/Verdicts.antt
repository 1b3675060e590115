-- The paper's number and place for each verdict of the scan ("Numbers of refusal": 0, 2 and 3). Assumes nothing.
use Rattle.std.specs.Prelude.{ℕ, List, length}
use Rattle.rules.specs.Editions.{LineEdition}
use Rattle.rules.specs.Lines.{Judged}
use Rattle.scan_line.specs.declared.Verdict.{Verdict}
use Rattle.scan_line.specs.declared.Verdict.TheVariants.{Fine, Short, Stray}

abbrev pub number_of : Verdict → ℕ
number_of Fine = 0
number_of Short = 3
number_of (Stray k) = 2

abbrev pub place_of : List ℕ → Verdict → ℕ
place_of line Fine = 0
place_of line Short = length line
place_of line (Stray k) = k

-- the verdict is what the rules say of the line, in an edition of lines
abbrev pub JudgedBy : LineEdition → List ℕ → Verdict → Type 0
JudgedBy l line v = Judged l line (number_of v) (place_of line v)
