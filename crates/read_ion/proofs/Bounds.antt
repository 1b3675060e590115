-- How far an ion goes, and how many units or bytes of text it has: never more than there are bytes. Assumes nothing.
use Prim.Native.Nat.{ℕ, zero, suc, ◌+◌, ◌≤◌, min}
use mathlib.Core.Path.{◌≡◌, refl}
use mathlib.Core.Bool.{Bool, true, false, cond}
use mathlib.Core.List.{List}
use native.Mathlib.Omega.{arith}
use lib.Dec.{eqb}
use lib.ListN.{length, get_or, drop, length-drop}
use Rattle.std.specs.Prelude.{Option}
use Rattle.lang.specs.Walk.{walk_in}
use Rattle.faults.specs.declared.Refusal.{Refusal}
use Rattle.read_formula.specs.Units.{begins_unit}
use Rattle.read_formula.specs.Formulas.{Counted, counted, unit_size, count_unit, formula_of}
use Rattle.read_formula.proofs.Measures.{unit_moves}
use Rattle.read_opening.specs.declared.Enclosed.{Enclosed}
use Rattle.read_opening.specs.Enclosed.{text_of, name_of}
use Rattle.read_opening.proofs.Measures as openings
use Rattle.read_ion.specs.declared.IonKind.{IonKind}
use Rattle.read_ion.specs.declared.IonKind.TheVariants as kinds
use Rattle.read_ion.specs.declared.IonRead.{IonRead}
use Rattle.read_ion.specs.Kinds.{with_text, series_of, internal_of, opens_modification, immonium_of, braced_of, reference_of, composed_of, unknown_of, precursor_of}
use Rattle.read_ion.specs.Ions.{ion_by, ion_of}

-- ---- a formula has no more units than bytes

count_more : (end : ℕ) (a : Counted) (s : List ℕ) → (count_unit end a s).units ≡ a.units + 1
unfolding count_unit
count_more end a s = refl

units_in : (end n : ℕ) (s : List ℕ) (a : Counted)
    → (walk_in begins_unit unit_size (count_unit end) n s a).known.units + length (walk_in begins_unit unit_size (count_unit end) n s a).rest ≤ a.units + length s
unfolding walk_in
units_in end zero s a = omega arith
units_in end (suc n) s a = by (units_in end n (drop (unit_size s) s) (count_unit end a s)) (begins_unit s) refl
  where
    by : (walk_in begins_unit unit_size (count_unit end) n (drop (unit_size s) s) (count_unit end a s)).known.units
        + length (walk_in begins_unit unit_size (count_unit end) n (drop (unit_size s) s) (count_unit end a s)).rest ≤ (count_unit end a s).units + length (drop (unit_size s) s)
        → (t : Bool) → begins_unit s ≡ t
        → (walk_in begins_unit unit_size (count_unit end) (suc n) s a).known.units + length (walk_in begins_unit unit_size (count_unit end) (suc n) s a).rest ≤ a.units + length s
    by ih true e = let m = unit_moves s e in rw e (omega (arith, ih, count_more end a s, length-drop (unit_size s) s))
    by ih false e = rw e (omega arith)

pub formula_units : (end : ℕ) (s : List ℕ) (f : Option Refusal) → (formula_of end s f).units ≤ (formula_of end s f).len
unfolding formula_of
formula_units end s f = omega (arith, units_in end (length s) s (counted 0 f))

-- ---- an ion

-- no part of it has more bytes than there are
pub record Within (r : IonRead) (s : List ℕ) : Type 0 where
  pub len : r.len ≤ length s
  pub units : r.units ≤ length s
  pub text : r.text ≤ length s

-- whichever of the two
one_of : {A : Type 0} (P : A → Type 0) (t : Bool) {x y : A} → P x → P y → P (cond t x y)
one_of P true p q = p
one_of P false p q = q

module _ (kind : IonKind) (letter position last at : ℕ) (s : List ℕ) where
  with_within : (c : Enclosed) → openings.Within c (drop at s) → Within (with_text kind letter position last at c (length s)) s
  with_within c w = record { len = omega arith; units = omega arith; text = omega (arith, w.size, length-drop at s) }

module _ (end : ℕ) (s : List ℕ) (f : Option Refusal) where
  series_within : Within (series_of end s f) s
  unfolding series_of
  series_within = with_within _ _ _ _ _ s _ (openings.text_within end _ _)

  internal_within : Within (internal_of end s f) s
  unfolding internal_of
  internal_within = with_within _ _ _ _ _ s _ (openings.text_within end _ _)

  immonium_within : Within (immonium_of end s f) s
  unfolding immonium_of
  immonium_within =
      let at = min (2 + 0) (length s) in
      one_of (λ r. Within r s) (opens_modification (drop at s)) (with_within kinds.Immonium (get_or s 1 0) 0 0 at s (name_of end (drop at s) f) (openings.name_within end (drop at s) f))
      (record { len = omega arith; units = omega arith; text = omega arith })

  braced_within : (kind : IonKind) → Within (braced_of kind end s f) s
  unfolding braced_of
  braced_within kind = with_within kind 0 0 0 1 s (text_of end (drop 1 s) f) (openings.text_within end (drop 1 s) f)

  reference_within : Within (reference_of end s f) s
  unfolding reference_of
  reference_within = with_within kinds.Reference 0 0 0 1 s (name_of end (drop 1 s) f) (openings.name_within end (drop 1 s) f)

  formula_few : (formula_of end (drop 2 s) f).len ≤ length (drop 2 s)
  unfolding formula_of
  formula_few = omega arith

  composed_within : Within (composed_of end s f) s
  unfolding composed_of
  composed_within = record { len = omega arith; units = omega (arith, formula_units end (drop 2 s) f, formula_few, length-drop 2 s); text = omega arith }

  unknown_within : Within (unknown_of end s f) s
  unfolding unknown_of
  unknown_within = record { len = omega arith; units = omega arith; text = omega arith }

  precursor_within : Within (precursor_of (length s) f) s
  unfolding precursor_of
  precursor_within = record { len = omega arith; units = omega arith; text = omega arith }

  by_within : (b : ℕ) → Within (ion_by b end s f) s
  unfolding ion_by
  by_within b =
      one_of (λ r. Within r s) (eqb b 109) internal_within
      (one_of (λ r. Within r s) (eqb b 73) immonium_within
      (one_of (λ r. Within r s) (eqb b 112) precursor_within
      (one_of (λ r. Within r s) (eqb b 114) reference_within
      (one_of (λ r. Within r s) (eqb b 95) (braced_within kinds.Named)
      (one_of (λ r. Within r s) (eqb b 102) composed_within
      (one_of (λ r. Within r s) (eqb b 115) (braced_within kinds.Smiles)
      (one_of (λ r. Within r s) (eqb b 63) unknown_within series_within)))))))

  pub ion_bounds : Within (ion_of end s f) s
  unfolding ion_of
  ion_bounds = by_within (get_or s 0 0)

pub ion_within : (end : ℕ) (s : List ℕ) (f : Option Refusal) → (ion_of end s f).len ≤ length s
ion_within end s f = (ion_bounds end s f).len

pub ion_units_lem : (end : ℕ) (s : List ℕ) (f : Option Refusal) → (ion_of end s f).units ≤ length s
ion_units_lem end s f = (ion_bounds end s f).units

pub ion_text_lem : (end : ℕ) (s : List ℕ) (f : Option Refusal) → (ion_of end s f).text ≤ length s
ion_text_lem end s f = (ion_bounds end s f).text
