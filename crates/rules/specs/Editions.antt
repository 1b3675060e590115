-- The editions of the stored table: document 01's, and document 02's (M-105), whose annotations have a count of residues more. And the editions
-- of lines: document 01's, and document 02's (M-113), in which internal ions may have letters. Assumes nothing.
use Rattle.std.specs.Prelude.{ℕ}

pub data Edition : Type 0 where
  ed1 : Edition
  ed2 : Edition

-- as the header has it
abbrev pub edition_number : Edition → ℕ
edition_number ed1 = 1
edition_number ed2 = 2

-- the edition that a line is read to
abbrev pub current : Edition
current = ed2

pub data LineEdition : Type 0 where
  first_lines : LineEdition
  second_lines : LineEdition

-- the lines that a table of an edition is of
abbrev pub lines_of : Edition → LineEdition
lines_of ed1 = first_lines
lines_of ed2 = second_lines
