-- The records of isotopes. Assumes nothing.
use Rattle.std.specs.Prelude.{ℕ, ◌+◌, ◌-◌, ◌≡◌, List, [], ◌∷◌, ◌++◌, length, None}
use Rattle.lang.specs.Walk.{Walked, walk}
use Rattle.rules.specs.Stored.{u8, u16, stores}
use Rattle.changes.specs.Signs.{sign_number}
use Rattle.put_bytes.specs.Puts.{Put}
use Rattle.read_opening.specs.Heads.{begins_isotope}
use Rattle.read_isotopes.specs.declared.IsotopeRead.{IsotopeRead}
use Rattle.read_isotopes.specs.declared.IsotopesStored.{IsotopesStored}
use Rattle.read_isotopes.specs.Kinds.{kind_number, kind_nucleons, kind_element}
use Rattle.read_isotopes.specs.Isotopes.{isotope_of}
use Rattle.read_isotopes.specs.Rows.{isotope_size}

-- sign, kind, n, nucleons, atomic number
abbrev pub record_of : IsotopeRead → List ℕ
record_of x = stores (u8 (sign_number x.sign) ∷ u8 (kind_number x.kind) ∷ u16 x.count ∷ u16 (kind_nucleons x.kind) ∷ u16 (kind_element x.kind) ∷ [])

-- how many, and their bytes
pub record Filed : Type 0 where
  pub n : ℕ
  pub bytes : List ℕ

unfoldable pub file_isotope : Filed → List ℕ → Filed
file_isotope a s = record { n = a.n + 1; bytes = a.bytes ++ record_of (isotope_of 0 0 s None) }

-- all that bytes begin with
unfoldable pub filed_isotopes : List ℕ → Walked Filed
filed_isotopes s = walk begins_isotope isotope_size file_isotope s (record { n = 0; bytes = [] })

-- output d is e after their records are put at a place
pub record StoresIsotopes (s d : List ℕ) (to : ℕ) (e : List ℕ) (r : IsotopesStored) : Type 0 where
  pub n : r.n ≡ (filed_isotopes s).known.n
  pub len : r.len ≡ length s - length (filed_isotopes s).rest
  pub put : Put d to (filed_isotopes s).known.bytes e r.next
