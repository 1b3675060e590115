-- What is capped of an ion that is spelled: how much it stores, and the rule that it keeps. Assumes nothing.
use Prim.Native.Nat.{ℕ}
use mathlib.Core.Path.{◌≡◌, refl, ap₂}
use mathlib.Core.Bool.{not, ◌&&◌}
use mathlib.Core.List.{List, [], ◌∷◌}
use native.Mathlib.Omega.{arith}
use lib.Dec.{leb}
use lib.ListN.{length, length-map}
use borrow.Author.Tests.{le-leb}
use Rattle.std.specs.Prelude.{Option}
use Rattle.lang.specs.Mark.{Kept, here, later, marks_of}
use Rattle.rules.specs.Numbers.{Number}
use Rattle.rules.specs.Formulas.{Written, unit_map}
use Rattle.rules.specs.Ions.{series, internal, immonium, precursor, reference, named, composed, smiles, unknown, ion_text, ion_map, SpelledIon}
use Rattle.rules.specs.Adducts.{Item}
use Rattle.rules.specs.Fields.{filled, filled_cut}
use Rattle.rules.specs.House.{is_empty, ion_rule}
use Rattle.rules.specs.Limits.{max_position, number_part, ion_parts}
use Rattle.rules.specs.Stored.{ion_fields}
use Rattle.rules.proofs.Keeps.{kept_part}
use Rattle.rules.proofs.FitParts.{number_within}
use Rattle.faults.specs.declared.Refusal.{Refusal}
use Rattle.read_formula.proofs.Spelled.{capped}
use Rattle.read_ion.proofs.SpelledIon.{ion_read}
use Rattle.read_annotation.specs.House.{ion_rule_of}

-- as the rules count it
pub record IonTold (x : SpelledIon) (g : Option Refusal) : Type 0 where
  pub units : (ion_read x g).units ≡ length (ion_fields (ion_map filled filled_cut x)).units
  pub text : (ion_read x g).text ≡ length (ion_fields (ion_map filled filled_cut x)).text
  pub len : (ion_read x g).len ≡ length (ion_text x)
  pub fault : (ion_read x g).fault ≡ g

pub ion_told : (x : SpelledIon) (g : Option Refusal) → IonTold x g
ion_told (series s n t) g = record { units = refl; text = refl; len = refl; fault = refl }
ion_told (internal c m n t) g = record { units = refl; text = refl; len = refl; fault = refl }
ion_told (immonium a m) g = record { units = refl; text = refl; len = refl; fault = refl }
ion_told precursor g = record { units = refl; text = refl; len = refl; fault = refl }
ion_told (reference n) g = record { units = refl; text = refl; len = refl; fault = refl }
ion_told (named t) g = record { units = refl; text = refl; len = refl; fault = refl }
ion_told (composed f) g = record { units = omega (arith, length-map f.more (unit_map filled)); text = refl; len = refl; fault = refl }
ion_told (smiles t) g = record { units = refl; text = refl; len = refl; fault = refl }
ion_told (unknown n) g = record { units = refl; text = refl; len = refl; fault = refl }

-- a number within its bound is capped as it is
pub told_within : (n : Number) (at : ℕ) → Kept ((number_part max_position n).marks at) → capped n.value ≡ n.value
told_within n at k = omega (arith, number_within max_position n at k)

some_items : (xs : List (Item Written)) → leb 1 (length xs) ≡ not (is_empty xs)
some_items [] = refl
some_items (x ∷ xs) = le-leb 1 (length (x ∷ xs)) (omega arith)

pub ion_rule_lem : (x : SpelledIon) (g : Option Refusal) (at : ℕ) (xs : List (Item Written)) → Kept (marks_of at (ion_parts x)) → ion_rule_of (ion_read x g) (length xs) ≡ ion_rule x (not (is_empty xs))
unfolding ion_rule_of
ion_rule_lem (series s n t) g at xs k = refl
ion_rule_lem (internal c m n t) g at xs k =
    let p = kept_part at (ion_parts (internal c m n t)) k (number_part max_position m) (later (later here)) in
    let q = kept_part at (ion_parts (internal c m n t)) k (number_part max_position n) (later (later (later (later here)))) in
    ap₂ (λ (a b : ℕ). leb 2 a && leb a b) (told_within m p.0 p.1) (told_within n q.0 q.1)
ion_rule_lem (immonium a m) g at xs k = refl
ion_rule_lem precursor g at xs k = refl
ion_rule_lem (reference n) g at xs k = refl
ion_rule_lem (named t) g at xs k = refl
ion_rule_lem (composed f) g at xs k = refl
ion_rule_lem (smiles t) g at xs k = some_items xs
ion_rule_lem (unknown n) g at xs k = refl
