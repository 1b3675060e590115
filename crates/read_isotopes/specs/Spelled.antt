-- Isotopes spelled anew. Assumes nothing.
use Rattle.std.specs.Prelude.{ℕ, ◌-◌, ◌≡◌, List, [], ◌++◌, length, take, drop, None}
use Rattle.lang.specs.Walk.{Walked, walk}
use Rattle.put_bytes.specs.Puts.{Put}
use Rattle.print_count.specs.declared.Respelled.{Respelled}
use Rattle.print_count.specs.Heads.{head_text}
use Rattle.read_opening.specs.Heads.{head_of, begins_isotope}
use Rattle.read_isotopes.specs.declared.IsotopeRead.{IsotopeRead}
use Rattle.read_isotopes.specs.Isotopes.{isotope_of}
use Rattle.read_isotopes.specs.Rows.{isotope_size}

-- of the bytes s, x was read; what stands behind the count stays as it is
unfoldable pub isotope_spelled : List ℕ → IsotopeRead → List ℕ
isotope_spelled s x = head_text x.sign x.count ++ take (x.len - (head_of s).len) (drop (head_of s).len s)

unfoldable pub spell_isotope : List ℕ → List ℕ → List ℕ
spell_isotope a s = a ++ isotope_spelled s (isotope_of 0 0 s None)

-- all that bytes begin with
unfoldable pub spelled_isotopes : List ℕ → Walked (List ℕ)
spelled_isotopes s = walk begins_isotope isotope_size spell_isotope s []

-- output d is e after they are put at a place
pub record SpellsIsotopes (s d : List ℕ) (to : ℕ) (e : List ℕ) (r : Respelled) : Type 0 where
  pub len : r.len ≡ length s - length (spelled_isotopes s).rest
  pub put : Put d to (spelled_isotopes s).known e r.to
