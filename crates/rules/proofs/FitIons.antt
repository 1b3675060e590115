-- The limits keep each number of an ion within its field of the stored table. Assumes nothing.
use Prim.Native.Nat.{ℕ, ◌+◌, ◌≤◌}
use mathlib.Core.Bool.{Bool, true, false}
use mathlib.Core.List.{[]}
use native.Mathlib.Omega.{arith}
use lib.Dec.{eqb, ltb→lt}
use Rattle.lang.specs.Parts.{Opt, silent, written}
use Rattle.lang.specs.Mark.{In, here, later, Kept, marks_of}
use Rattle.lang.proofs.Lits.{in→}
use Rattle.rules.specs.Numbers.{Number}
use Rattle.rules.specs.Formulas.{FormulaUnit}
use Rattle.rules.specs.Ions.{Cleavage, SpelledIon, TableIon, series, internal, immonium, precursor, reference, named, composed, smiles, unknown, ion_map}
use Rattle.rules.specs.Fields.{filled, filled_cut}
use Rattle.rules.specs.Limits.{max_position, opt_part, number_part, formula_part, ion_parts}
use Rattle.rules.specs.Stored.{value_or0, number, kind, held_cut, ion_fields}
use Rattle.rules.proofs.Totals.{in_none}
use Rattle.rules.proofs.Keeps.{kept_part}
use Rattle.rules.proofs.FitParts.{number_within, UnitFits, formula_fits}

pub record IonSmall (x : TableIon) : Type 0 where
  pub kind : kind x ≤ 9
  pub letter : (ion_fields x).letter ≤ 255
  pub position : (ion_fields x).position ≤ max_position
  pub end : (ion_fields x).end ≤ max_position

pub record IonFits (x : TableIon) : Type 0 where
  pub small : IonSmall x
  pub units : (u : FormulaUnit Number) → In u (ion_fields x).units → UnitFits u

no_units : (u : FormulaUnit Number) → In u [] → UnitFits u
no_units u i = absurd (in_none i)

label_within : (n : Opt Number) (at : ℕ) → Kept ((opt_part (number_part max_position) n).marks at) → value_or0 number n ≤ max_position
label_within silent at k = omega arith
label_within (written n) at k = number_within max_position n at k

-- a cleavage is held as 9 at most
cut_within : (c : Cleavage) → held_cut c ≤ 9
cut_within c = by (eqb c.which 4)
  where
    by : (t : Bool) → elim t [ true ↦ 0 | false ↦ c.which + 1 ] ≤ 9
    by true = omega arith
    by false = omega (arith, ltb→lt c.which 9 c.known)

pub ion_fits : (x : SpelledIon) (at : ℕ) → Kept (marks_of at (ion_parts x)) → IonFits (ion_map filled filled_cut x)
ion_fits (series s n t) at k =
    let p = kept_part at (ion_parts (series s n t)) k (number_part max_position n) (later here) in
    record { small = omega (arith, ltb→lt s.which 13 s.known, number_within max_position n p.0 p.1); units = no_units }
ion_fits (internal c m n t) at k =
    let p = kept_part at (ion_parts (internal c m n t)) k (number_part max_position m) (later (later here)) in
    let q = kept_part at (ion_parts (internal c m n t)) k (number_part max_position n) (later (later (later (later here)))) in
    record { small = omega (arith, cut_within (filled_cut c), number_within max_position m p.0 p.1, number_within max_position n q.0 q.1); units = no_units }
ion_fits (immonium a m) at k = record { small = omega (arith, (in→ 65 90 a.val a.is_in).1); units = no_units }
ion_fits precursor at k = record { small = omega arith; units = no_units }
ion_fits (reference n) at k = record { small = omega arith; units = no_units }
ion_fits (named t) at k = record { small = omega arith; units = no_units }
ion_fits (composed f) at k =
    let p = kept_part at (ion_parts (composed f)) k (formula_part f) (later here) in
    record { small = omega arith; units = formula_fits f p.0 p.1 }
ion_fits (smiles t) at k = record { small = omega arith; units = no_units }
ion_fits (unknown n) at k =
    let p = kept_part at (ion_parts (unknown n)) k (opt_part (number_part max_position) n) (later here) in
    record { small = omega (arith, label_within n p.0 p.1); units = no_units }
