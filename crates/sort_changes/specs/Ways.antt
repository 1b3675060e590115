-- How many losses, or adduct items, a part begins with. Assumes nothing.
use Rattle.std.specs.Prelude.{ℕ, ◌≡◌, true, false, List, drop}
use Rattle.read_opening.specs.Heads.{begins_change}
use Rattle.read_changes.specs.declared.ChangeRead.{ChangeRead}
use Rattle.read_changes.specs.Rows.{change_size}
use Rattle.sort_changes.specs.declared.Begins.{Begins}
use Rattle.sort_changes.specs.declared.Begins.TheVariants.{None, One, Several}
use Rattle.sort_changes.specs.Gathered.{change_here}

-- x is read of the first of the bytes s, and no other stands behind it
pub record BeginsOne (s : List ℕ) (x : ChangeRead) : Type 0 where
  pub here : begins_change s ≡ true
  pub last : begins_change (drop (change_size s) s) ≡ false
  pub is : x ≡ change_here s

-- another stands behind the first
pub record BeginsSeveral (s : List ℕ) : Type 0 where
  pub here : begins_change s ≡ true
  pub next : begins_change (drop (change_size s) s) ≡ true

abbrev pub BeginsSo : List ℕ → Begins → Type 0
BeginsSo s None = begins_change s ≡ false
BeginsSo s (One x) = BeginsOne s x
BeginsSo s Several = BeginsSeveral s
