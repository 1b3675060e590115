-- A line read back: whether it reads to given bytes. Assumes nothing.
use Rattle.std.specs.Prelude.{ℕ, Bool, ◌&&◌, List, eqb, take, replicate}
use Rattle.rules.specs.Answers.{Answer}
use Rattle.rules.specs.Editions.{Edition}
use Rattle.scan_line.specs.declared.Verdict.{Verdict}
use Rattle.read_line.specs.Readings.{any_over}
use Rattle.read_line.specs.Same.{same_bytes, all_bytes}

-- the answer says that the bytes are what was read
abbrev pub is_read : Answer → List ℕ → Bool
is_read a table = eqb a.number 0 && same_bytes (take a.size a.out) table

-- a line of any length reads to the bytes of an edition, where its shape was judged and a cleared output lent
unfoldable pub reads_to : Edition → Verdict → List ℕ → List ℕ → List ℕ → Bool
reads_to e v scratch line table = all_bytes line && is_read (any_over e scratch v line) table

-- enough bytes for most tables
abbrev pub few : ℕ
few = 1024

abbrev pub zeros : ℕ → List ℕ
zeros n = replicate n 0
