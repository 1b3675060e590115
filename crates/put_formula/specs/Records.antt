-- The records of units. Assumes nothing.
use Rattle.std.specs.Prelude.{ℕ, List, [], ◌∷◌, drop}
use Rattle.rules.specs.Stored.{u16, stores}
use Rattle.rules.specs.Layout.{unit_width, unit_element_at, atom_count_at}
use Rattle.slices.specs.Numbers.{u16_at}
use Rattle.read_formula.specs.declared.UnitRead.{UnitRead}
use Rattle.read_formula.specs.Units.{unit_of}
use Rattle.read_formula.specs.Formulas.{unit_size}
use Rattle.put_formula.specs.Chains.{chain}

-- nucleons, atomic number, count
abbrev pub record_of : UnitRead → List ℕ
record_of u = stores (u16 u.nucleons ∷ u16 u.element ∷ u16 u.count ∷ [])

-- of the first n units that bytes begin with
abbrev pub records_of : ℕ → List ℕ → List ℕ
records_of n s = chain (λ r. record_of (unit_of r)) unit_size n s

-- the unit whose record bytes begin with
unfoldable pub stored_unit : List ℕ → UnitRead
stored_unit t = record { nucleons = u16_at t; element = u16_at (drop unit_element_at t); count = u16_at (drop atom_count_at t); count_at = atom_count_at; len = unit_width }
