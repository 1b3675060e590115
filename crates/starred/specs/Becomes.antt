-- Document 01, "Lines and what becomes of them": what a row of the table says. Assumes nothing.
use Rattle.std.specs.Prelude.{ℕ, ◌≡◌, List, [], ◌∷◌, ◌↔◌, length}
use Prim.Native.String.{String}
use Rattle.rules.specs.Bytes.{bytes}
use Rattle.rules.specs.Editions.{LineEdition}
use Rattle.rules.specs.Answers.{Answer, refuses, Delivers, Reads, Writes}

infix 70 ◌is◌
-- a line is refused, by number and place; or it is read: the size and all bytes of its table, and the line that the table is written as
pub data Becomes : Type 0 where
  refused : (number place : ℕ) → Becomes
  read : (size : ℕ) (table : List ℕ) (best : String) → Becomes

pub record Row : Type 0 where
  pub line : String
  pub what : Becomes

abbrev pub ◌is◌ : String → Becomes → Row
line is what = record { line = line; what = what }

-- in each edition of lines (document 02, M-113), whatever the room of the output, the answer is this refusal and no other
abbrev pub RefusedAs : String → ℕ → ℕ → Type 0
RefusedAs line number place = (l : LineEdition) (room : ℕ) (a : Answer) → Reads l (bytes line) room a ↔ (a ≡ refuses room number place)

-- in each edition of lines, whatever the room of the output, reading the line gives the table and writing the table gives the best line, or 8 where the room is
-- too small for it, and there is no other answer
pub record ReadAs (line : String) (size : ℕ) (table : List ℕ) (best : String) : Type 0 where
  pub long : length table ≡ size
  pub reads : (l : LineEdition) (room : ℕ) (a : Answer) → Reads l (bytes line) room a ↔ Delivers room table a
  pub writes : (l : LineEdition) (room : ℕ) (a : Answer) → Writes l table room a ↔ Delivers room (bytes best) a

abbrev pub Meets : String → Becomes → Type 0
Meets line (refused number place) = RefusedAs line number place
Meets line (read size table best) = ReadAs line size table best

-- each row holds
abbrev pub AllRows : List Row → Type 0
AllRows [] = Unit {0}
AllRows (r ∷ rs) = Meets r.line r.what × AllRows rs
