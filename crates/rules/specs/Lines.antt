-- Document 01, "Shape of a line": a line is empty, or annotations joined by single commas. Assumes nothing.
use Rattle.std.specs.Prelude.{ℕ, ◌≡◌, Bool, true, false, ◌&&◌, List, [], ◌∷◌, ◌++◌, T, length}
use Rattle.lang.specs.Parts.{silent, written, flat}
use Rattle.lang.specs.Scan.{Begins, Stray}
use Rattle.rules.specs.Bytes.{bytes}
use Rattle.rules.specs.Ions.{SpelledIon, series, internal, immonium, precursor, reference, named, composed, smiles, unknown}
use Rattle.rules.specs.Editions.{LineEdition, first_lines, second_lines}
use Rattle.rules.specs.Annotations.{SpelledAnnotation, annotation_text}

-- a spelling: every choice that a writer of lines has
abbrev pub Spelling : Type 0
Spelling = List SpelledAnnotation

abbrev pub next_text : SpelledAnnotation → List ℕ
next_text a = bytes "," ++ annotation_text a

abbrev pub line_text : Spelling → List ℕ
line_text [] = []
line_text (a ∷ more) = annotation_text a ++ flat next_text more

-- ---- editions of lines: the first's spellings are those of the second without letters (document 02, M-113)

-- no letters are written behind the `m` of an internal ion
abbrev pub unlettered : SpelledIon → Bool
unlettered (internal silent m n t) = true
unlettered (internal (written c) m n t) = false
unlettered (series s n t) = true
unlettered (immonium a m) = true
unlettered precursor = true
unlettered (reference n) = true
unlettered (named t) = true
unlettered (composed f) = true
unlettered (smiles t) = true
unlettered (unknown n) = true

abbrev pub all_unlettered : Spelling → Bool
all_unlettered [] = true
all_unlettered (a ∷ more) = unlettered a.ion && all_unlettered more

-- a spelling is one of an edition of lines
abbrev pub within : LineEdition → Spelling → Bool
within first_lines s = all_unlettered s
within second_lines s = true

-- the line has a shape
abbrev pub Shape : LineEdition → List ℕ → Type 0
Shape l line = (s : Spelling) × (T (within l s) × (line_text s ≡ line))

-- "Numbers of refusal", rows 2 and 3: the line has no shape, by number and place
pub data Misshapen (l : LineEdition) (line : List ℕ) : ℕ → ℕ → Type 0 where
  stray : (place : ℕ) → Stray (Shape l) line place → Misshapen l line 2 place
  short : Begins (Shape l) line → (Shape l line → ⊥) → Misshapen l line 3 (length line)

-- what the shape of a line is: 0, or why it has none
pub data Judged (l : LineEdition) (line : List ℕ) : ℕ → ℕ → Type 0 where
  fine : Shape l line → Judged l line 0 0
  misshapen : {number place : ℕ} → Misshapen l line number place → Judged l line number place
