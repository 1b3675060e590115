-- The units that bytes begin with, one after the other: how many, how many bytes, the first broken limit. Assumes nothing.
use Rattle.std.specs.Prelude.{ℕ, ◌+◌, ◌-◌, List, length, Option}
use Rattle.lang.specs.Walk.{Walked, walk}
use Rattle.faults.specs.declared.Refusal.{Refusal}
use Rattle.read_formula.specs.declared.FormulaRead.{FormulaRead}
use Rattle.read_formula.specs.Units.{begins_unit, span_of, unit_of, unit_fault}

-- how many units, and the first broken limit
pub record Counted : Type 0 where
  pub units : ℕ
  pub fault : Option Refusal

abbrev pub counted : ℕ → Option Refusal → Counted
counted n f = record { units = n; fault = f }

abbrev pub unit_size : List ℕ → ℕ
unit_size s = (unit_of s).len

-- one unit more, in a line of `end` bytes
unfoldable pub count_unit : ℕ → Counted → List ℕ → Counted
count_unit end a s = counted (a.units + 1) (unit_fault a.fault (span_of s) a.units end (length s))

abbrev pub units_from : ℕ → List ℕ → Counted → Walked Counted
units_from end s a = walk begins_unit unit_size (count_unit end) s a

unfoldable pub formula_of : ℕ → List ℕ → Option Refusal → FormulaRead
formula_of end s f =
    let w = units_from end s (counted 0 f) in
    record { units = w.known.units; len = length s - length w.rest; fault = w.known.fault }
