-- Document 01's starred lines become what it says of them. Assumes nothing.
use mathlib.Core.Path.{refl}
use native.Mathlib.Omega.{arith}
use Rattle.rules.proofs.worked.Ions as ions
use Rattle.rules.proofs.worked.Losses as losses
use Rattle.rules.proofs.worked.Others as others
use Rattle.rules.proofs.worked.Several as several
use Rattle.rules.proofs.worked.Bounds as bounds
use Rattle.shape.specs.Tables.{rows as cells, classes, accepts}
use Rattle.scan_line.specs.declared.Verdict.TheVariants.{Short, Stray}
use Rattle.shape.proofs.TableMachine.{machine, rows1, machine1}
use Rattle.starred.specs.Becomes.{RefusedAs, AllRows}
use Rattle.starred.specs.Rows.{rows}
use Rattle.starred.proofs.Judge.{judge_from}
use Rattle.starred.proofs.Refused.{no_shape, past_one}
use Rattle.starred.proofs.Worked.{read_as}

infixr 20 ◌also◌
-- ---- the verdicts of the machine of each edition of lines, computed

plain_isotope : RefusedAs "y2+1H" 2 4
unfolding judge_from machine machine1 cells rows1 classes accepts
plain_isotope = no_shape "y2+1H" (Stray 4) tt (omega arith) refl refl (λ e. omega arith)

example : RefusedAs "y7-H2O+i^2[M+NH4]" 2 10
unfolding judge_from machine machine1 cells rows1 classes accepts
example = no_shape "y7-H2O+i^2[M+NH4]" (Stray 10) tt (omega arith) refl refl (λ e. omega arith)

last_comma : RefusedAs "y1," 3 3
unfolding judge_from machine machine1 cells rows1 classes accepts
last_comma = no_shape "y1," Short tt (omega arith) refl refl (λ e. omega arith)

charge_one : RefusedAs "y1^1" 3 4
unfolding judge_from machine machine1 cells rows1 classes accepts
charge_one = no_shape "y1^1" Short tt (omega arith) refl refl (λ e. omega arith)

abbrev ◌also◌ : {A B : Type 0} → A → B → A × B
a also b = (a, b)

pub starred : AllRows rows
starred =
    read_as ions.empty tt (omega arith) (omega arith)
    also read_as ions.y1 tt (omega arith) (omega arith)
    also read_as losses.formulas tt (omega arith) (omega arith)
    also read_as others.isotope_one tt (omega arith) (omega arith)
    also plain_isotope
    also read_as ions.immonium_adduct tt (omega arith) (omega arith)
    also read_as ions.immonium_modified tt (omega arith) (omega arith)
    also example
    also last_comma
    also charge_one
    also read_as several.sum_to_one tt (omega arith) (omega arith)
    also past_one bounds.sum_past tt refl (omega arith)
    also tt
