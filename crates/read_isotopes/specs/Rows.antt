-- The isotopes that bytes begin with, one after the other. Assumes nothing.
use Rattle.std.specs.Prelude.{ℕ, ◌+◌, ◌-◌, List, length, Option, None}
use Rattle.lang.specs.Walk.{Walked, walk}
use Rattle.faults.specs.declared.Refusal.{Refusal}
use Rattle.read_formula.specs.Formulas.{Counted, counted}
use Rattle.read_opening.specs.Heads.{begins_isotope}
use Rattle.read_isotopes.specs.declared.IsotopesRead.{IsotopesRead}
use Rattle.read_isotopes.specs.Isotopes.{isotope_of}

-- how many bytes the first has, whatever its limits
abbrev pub isotope_size : List ℕ → ℕ
isotope_size s = (isotope_of 0 0 s None).len

-- one more, in a line of `end` bytes; `units` counts the isotopes
unfoldable pub count_isotope : ℕ → Counted → List ℕ → Counted
count_isotope end a s = counted (a.units + 1) (isotope_of a.units end s a.fault).fault

abbrev pub isotopes_from : ℕ → List ℕ → Counted → Walked Counted
isotopes_from end s a = walk begins_isotope isotope_size (count_isotope end) s a

unfoldable pub isotopes_of : ℕ → List ℕ → Option Refusal → IsotopesRead
isotopes_of end s f =
    let w = isotopes_from end s (counted 0 f) in
    record { n = w.known.units; len = length s - length w.rest; fault = w.known.fault }
