-- What stands behind the `i` of an isotope, as it is stored. Assumes nothing.
use Rattle.std.specs.Prelude.{ℕ}
use Rattle.read_isotopes.specs.declared.IsotopeKind.{IsotopeKind}
use Rattle.read_isotopes.specs.declared.IsotopeKind.TheVariants.{Plain, Average, Specific}

abbrev pub kind_number : IsotopeKind → ℕ
kind_number Plain = 0
kind_number Average = 1
kind_number (Specific nucleons element) = 2

-- 0 where none stands
abbrev pub kind_nucleons : IsotopeKind → ℕ
kind_nucleons Plain = 0
kind_nucleons Average = 0
kind_nucleons (Specific nucleons element) = nucleons

abbrev pub kind_element : IsotopeKind → ℕ
kind_element Plain = 0
kind_element Average = 0
kind_element (Specific nucleons element) = element
