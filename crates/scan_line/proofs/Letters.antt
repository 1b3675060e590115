-- The machine of the second edition takes letters, that of the first does not. Assumes nothing.
use Prim.Native.Nat.{ℕ, ◌<◌, ◌≤◌}
use mathlib.Core.Path.{◌≡◌, refl}
use mathlib.Core.Bool.{Bool, true, false}
use mathlib.Core.List.{List}
use lib.Dec.{ltb}
use lib.ListN.{length, get_or}
use borrow.Author.Tests.{lt-ltb, le-ltb}
use Rattle.rules.specs.Editions.{LineEdition, first_lines, second_lines}
use Rattle.shape.specs.Tables as Tables
use Rattle.shape.specs.Tables.{states, x_at}
use Rattle.scan_line.specs.Steps.{second_bytes, machine_bytes, takes_letters}

abbrev pub is_second : LineEdition → Bool
is_second first_lines = false
is_second second_lines = true

pub takes_letters_lem : (l : LineEdition) → takes_letters (machine_bytes l) ≡ is_second l
unfolding takes_letters machine_bytes second_bytes Tables.packed
takes_letters_lem first_lines = refl
takes_letters_lem second_lines = refl

-- ---- told by one byte

pub letters_short : (m : List ℕ) → length m ≤ x_at → false ≡ takes_letters m
unfolding takes_letters
letters_short m h = rw (le-ltb x_at (length m) h)

pub letters_told : (m : List ℕ) → x_at < length m → ltb (get_or m x_at 0) states ≡ takes_letters m
unfolding takes_letters
letters_told m h = rw (lt-ltb x_at (length m) h)
