-- The losses, or adduct items, that bytes begin with, one after the other. Assumes nothing.
use Rattle.std.specs.Prelude.{ℕ, ◌+◌, ◌-◌, List, length, Option, None}
use Rattle.lang.specs.Walk.{Walked, walk}
use Rattle.faults.specs.declared.Refusal.{Refusal}
use Rattle.read_opening.specs.Heads.{begins_change}
use Rattle.read_changes.specs.declared.ChangeRead.{ChangeRead}
use Rattle.read_changes.specs.declared.Row.{Row}
use Rattle.read_changes.specs.Changes.{change_of, units_in, text_in}

-- how many, how many units and name bytes in all, the first broken limit
pub record Sums : Type 0 where
  pub n : ℕ
  pub units : ℕ
  pub text : ℕ
  pub fault : Option Refusal

abbrev pub sums : ℕ → ℕ → ℕ → Option Refusal → Sums
sums n units text f = record { n = n; units = units; text = text; fault = f }

-- how many bytes the first has, whatever its limits
abbrev pub change_size : List ℕ → ℕ
change_size s = (change_of 0 0 0 s None).len

abbrev pub added : Sums → ChangeRead → Sums
added a x = sums (a.n + 1) (a.units + units_in x) (a.text + text_in x) x.fault

-- one more, in a line of `end` bytes
unfoldable pub count_change : ℕ → ℕ → Sums → List ℕ → Sums
count_change bound end a s = added a (change_of bound a.n end s a.fault)

abbrev pub changes_from : ℕ → ℕ → List ℕ → Sums → Walked Sums
changes_from bound end s a = walk begins_change change_size (count_change bound end) s a

unfoldable pub changes_of : ℕ → ℕ → List ℕ → Option Refusal → Row
changes_of bound end s f =
    let w = changes_from bound end s (sums 0 0 0 f) in
    record { n = w.known.n; units = w.known.units; text = w.known.text; len = length s - length w.rest; fault = w.known.fault }
