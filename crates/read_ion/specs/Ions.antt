-- The ion that bytes begin with, told by the first of them. Assumes nothing.
use Rattle.std.specs.Prelude.{ℕ, cond, List, eqb, length, get_or, Option}
use Rattle.faults.specs.declared.Refusal.{Refusal}
use Rattle.read_ion.specs.declared.IonKind.TheVariants as kinds
use Rattle.read_ion.specs.declared.IonRead.{IonRead}
use Rattle.read_ion.specs.Kinds.{series_of, internal_of, immonium_of, braced_of, reference_of, composed_of, unknown_of, precursor_of}

-- m, I, p, r, _, f, s, ?, and else a series
unfoldable pub ion_by : ℕ → ℕ → List ℕ → Option Refusal → IonRead
ion_by b end s f =
    cond (eqb b 109) (internal_of end s f)
    (cond (eqb b 73) (immonium_of end s f)
    (cond (eqb b 112) (precursor_of (length s) f)
    (cond (eqb b 114) (reference_of end s f)
    (cond (eqb b 95) (braced_of kinds.Named end s f)
    (cond (eqb b 102) (composed_of end s f)
    (cond (eqb b 115) (braced_of kinds.Smiles end s f)
    (cond (eqb b 63) (unknown_of end s f) (series_of end s f))))))))

unfoldable pub ion_of : ℕ → List ℕ → Option Refusal → IonRead
ion_of end s f = ion_by (get_or s 0 0) end s f
