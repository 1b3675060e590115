-- The words that a program takes. Assumes nothing.
use Rattle.std.specs.Prelude.{ℕ, ◌≤◌, ◌≡◌, Bool, true, List, length, take}
use Rattle.rules.specs.Bytes.{bytes}

-- the argument that asks what a program does
abbrev pub help_word : List ℕ
help_word = bytes "--help"

-- the argument that asks for lines of the second edition
abbrev pub second_word : List ℕ
second_word = bytes "--second"

-- the first n bytes of a buffer can be lent, and are n
abbrev pub IsPrefixLen : ℕ → List ℕ → Type 0
IsPrefixLen n xs = (n ≤ length xs) × (n ≡ length (take n xs))

-- r tells whether two words are the same
pub record Tells (r : Bool) (a b : List ℕ) : Type 0 where
  pub same : r ≡ true → a ≡ b
  pub told : a ≡ b → r ≡ true
