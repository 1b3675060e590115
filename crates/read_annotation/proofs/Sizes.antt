-- Each unit, and each byte of a text that is stored, stands for a byte or more of the line. Assumes nothing.
use Prim.Native.Nat.{ℕ, ◌+◌, ◌≤◌}
use mathlib.Core.Path.{◌≡◌, refl, sym, subst}
use mathlib.Core.Bool.{Bool, true}
use mathlib.Core.List.{List, [], ◌∷◌, ◌++◌, map}
use native.Mathlib.Omega.{arith}
use lib.ListN.{length, length-append, length-map}
use Rattle.std.specs.Prelude.{None}
use Rattle.lang.specs.Parts.{Opt, silent, written, opt_text, Such, items, flat, word_of}
use Rattle.lang.proofs.Tests.{not_t}
use Rattle.rules.specs.Bytes.{bytes}
use Rattle.rules.specs.Texts.{braced_text, bracket_text}
use Rattle.rules.specs.Numbers.{number_text}
use Rattle.rules.specs.Formulas.{Written, FormulaUnit, unit_text, unit_map, Formula, formula_text, formula_map}
use Rattle.rules.specs.Ions.{series, internal, immonium, precursor, reference, named, composed, smiles, unknown, ion_text, ion_map, SpelledIon}
use Rattle.rules.specs.Losses.{Loss, loss_text, loss_map}
use Rattle.rules.specs.Fields.{filled, filled_cut}
use Rattle.rules.specs.Limits.{max_losses}
use Rattle.rules.specs.Stored.{bytes_of, ion_fields, lost_units, lost_name}
use Rattle.read_formula.specs.Units.{begins_unit}
use Rattle.read_formula.proofs.Spelled.{begins_unit_lem}
use Rattle.read_formula.proofs.Ends.{ends_apart}
use Rattle.read_opening.proofs.SpelledOpenings.{no_sign}
use Rattle.read_changes.specs.declared.Row.{Row}
use Rattle.read_changes.proofs.SpelledChanges.{EndsChanges, losses_read, changes_units}

-- ---- formulas

unit_here : (s : List ℕ) → begins_unit s ≡ true → 1 ≤ length s
unfolding begins_unit
unit_here [] e = absurd (not_t {x = true} (sym e) tt)
unit_here (b ∷ s) e = omega arith

unit_some : (u : FormulaUnit Written) → 1 ≤ length (unit_text u)
unit_some u = omega (arith, unit_here (unit_text u ++ []) (begins_unit_lem u []), length-append (unit_text u) [])

units_long : (us : List (FormulaUnit Written)) → length us ≤ length (flat unit_text us)
units_long [] = omega arith
units_long (u ∷ us) = omega (arith, unit_some u, units_long us, length-append (unit_text u) (flat unit_text us))

formula_long : (x : Formula Written) → length (items (formula_map filled x)) ≤ length (formula_text x)
formula_long x = omega (arith, units_long (items x), length-map x.more (unit_map filled))

-- ---- ions

braced_long : {f : List ℕ → Bool} (t : Opt (Such f)) → length (bytes_of t) ≤ length (opt_text braced_text t)
braced_long silent = omega arith
braced_long (written t) = omega (arith, length-append t.bytes (bytes "}"))

bracket_long : {f : List ℕ → Bool} (t : Opt (Such f)) → length (bytes_of t) ≤ length (opt_text bracket_text t)
bracket_long silent = omega arith
bracket_long (written t) = omega (arith, length-append t.bytes (bytes "]"))

-- units, and text: one of the two is empty
pub record IonLong (x : SpelledIon) : Type 0 where
  pub units : length (ion_fields (ion_map filled filled_cut x)).units ≤ length (ion_text x)
  pub text : length (ion_fields (ion_map filled filled_cut x)).text ≤ length (ion_text x)

pub ion_long : (x : SpelledIon) → IonLong x
ion_long (series s n t) =
    let w = number_text n ++ opt_text braced_text t in
    record { units = omega arith; text = omega (arith, length-append (word_of s) w, length-append (number_text n) (opt_text braced_text t), braced_long t) }
ion_long (internal c m n t) =
    let w = number_text n ++ opt_text braced_text t in
    record { units = omega arith; text = omega (arith, length-append (opt_text word_of c) (number_text m ++ (bytes ":" ++ w)), length-append (number_text m) (bytes ":" ++ w), length-append (number_text n) (opt_text braced_text t), braced_long t) }
ion_long (immonium a m) = record { units = omega arith; text = omega (arith, bracket_long m) }
ion_long precursor = record { units = omega arith; text = omega arith }
ion_long (reference n) = record { units = omega arith; text = omega (arith, length-append n.bytes (bytes "]")) }
ion_long (named t) = record { units = omega arith; text = omega (arith, length-append t.bytes (bytes "}")) }
ion_long (composed f) = record { units = omega (arith, formula_long f, length-append (formula_text f) (bytes "}")); text = omega arith }
ion_long (smiles t) = record { units = omega arith; text = omega (arith, length-append t.bytes (bytes "}")) }
ion_long (unknown n) = record { units = omega arith; text = omega arith }

-- ---- losses

pub losses_long : (ls : List (Loss Written))
    → length (flat (λ l. lost_units l.what) (map (loss_map filled) ls)) + length (flat (λ l. lost_name l.what) (map (loss_map filled) ls)) ≤ length (flat loss_text ls)
losses_long ls =
    let s = flat loss_text ls ++ [] in
    let e : EndsChanges [] = record { formula = ends_apart [] refl; none = (no_sign [] refl).0 } in
    subst (λ (r : Row). r.units + r.text ≤ r.len) (losses_read ls [] (length s) None e (omega arith)) (changes_units max_losses (length s) s None)
