-- What the limits say of an annotation of a table: bounds of its numbers, its texts and of how many it has of each. No place is named, and
-- the order of losses and items does not matter. Assumes nothing.
use Prim.Native.Nat.{ℕ, ◌≤◌}
use mathlib.Core.Path.{subst}
use mathlib.Core.Bool.{Bool}
use mathlib.Core.List.{List}
use lib.Dec.{T}
use lib.ListN.{length}
use Rattle.lang.specs.Parts.{Opt, silent, written, items, Such}
use Rattle.lang.specs.Mark.{In}
use Rattle.lang.specs.Order.{Perm}
use Rattle.rules.specs.Numbers.{From, Number}
use Rattle.rules.specs.Decimals.{Decimal}
use Rattle.rules.specs.Formulas.{FormulaUnit, plain, labelled, Formula}
use Rattle.rules.specs.Ions.{series, internal, immonium, precursor, reference, named, composed, smiles, unknown, TableIon}
use Rattle.rules.specs.Losses.{Lost, lost_formula, lost_name_lem, Loss}
use Rattle.rules.specs.Isotopes.{Shift, Specific, Isotopes, no_isotope, plain_isotope, average_isotope, specific_isotopes}
use Rattle.rules.specs.Adducts.{Added, added_formula, electron, Item}
use Rattle.rules.specs.Annotations.{TableAnnotation, Deviation}
use Rattle.rules.specs.Fields.{SameFields}
use Rattle.rules.specs.Limits.{max_losses, max_isotopes, max_items, max_units, max_text, max_position, max_count, max_charge, fits}
use Rattle.rules.proofs.Totals.{perm_length, perm_in}

-- ---- in general

-- what may be left out is within where it is there
abbrev pub IfThere : {A : Type 0} → (A → Type 0) → Opt A → Type 0
IfThere P silent = Unit {0}
IfThere P (written x) = P x

-- a row has no more than its bound, each within
pub record Row {A : Type 0} (bound : ℕ) (P : A → Type 0) (xs : List A) : Type 0 where
  pub few : length xs ≤ bound
  pub each : (x : A) → In x xs → P x

pub row_perm : {A : Type 0} {bound : ℕ} {P : A → Type 0} {l m : List A} → Perm l m → Row bound P l → Row bound P m
row_perm {A} {bound} {P} {l} {m} p r =
    record { few = subst (λ (n : ℕ). n ≤ bound) (perm_length p) r.few; each = λ x i. r.each x (perm_in p x i) }

abbrev pub AtMost : {m : ℕ} → ℕ → From m → Type 0
AtMost bound n = n.value ≤ bound

abbrev pub Short : {f : List ℕ → Bool} → Such f → Type 0
Short t = length t.bytes ≤ max_text

-- ---- the parts of an annotation

abbrev pub UnitWithin : FormulaUnit Number → Type 0
UnitWithin (plain s c) = AtMost max_count c
UnitWithin (labelled a s c) = AtMost max_count a × AtMost max_count c

abbrev pub FormulaWithin : Formula Number → Type 0
FormulaWithin f = Row max_units UnitWithin (items f)

abbrev pub IonWithin : TableIon → Type 0
IonWithin (series s n t) = AtMost max_position n × IfThere Short t
IonWithin (internal c m n t) = AtMost max_position m × (AtMost max_position n × IfThere Short t)
IonWithin (immonium a m) = IfThere Short m
IonWithin precursor = Unit {0}
IonWithin (reference n) = Short n
IonWithin (named t) = Short t
IonWithin (composed f) = FormulaWithin f
IonWithin (smiles t) = Short t
IonWithin (unknown n) = IfThere (AtMost max_position) n

abbrev pub LostWithin : Lost Number → Type 0
LostWithin (lost_formula f) = FormulaWithin f
LostWithin (lost_name_lem n) = Short n

pub record LossWithin (l : Loss Number) : Type 0 where
  pub count : IfThere (AtMost max_count) l.count
  pub what : LostWithin l.what

abbrev pub ShiftWithin : Shift Number → Type 0
ShiftWithin x = AtMost max_count x.count

pub record SpecificWithin (x : Specific Number) : Type 0 where
  pub shift : ShiftWithin x.shift
  pub nucleons : AtMost max_count x.nucleons

abbrev pub IsotopesWithin : Isotopes Number → Type 0
IsotopesWithin no_isotope = Unit {0}
IsotopesWithin (plain_isotope x) = ShiftWithin x
IsotopesWithin (average_isotope x) = ShiftWithin x
IsotopesWithin (specific_isotopes xs) = Row max_isotopes SpecificWithin (items xs)

abbrev pub AddedWithin : Added Number → Type 0
AddedWithin (added_formula f) = FormulaWithin f
AddedWithin electron = Unit {0}

pub record ItemWithin (x : Item Number) : Type 0 where
  pub count : AtMost max_count x.count
  pub what : AddedWithin x.what

abbrev pub DecimalWithin : Decimal → Type 0
DecimalWithin d = T (fits d)

abbrev pub DeviationWithin : Deviation → Type 0
DeviationWithin d = DecimalWithin d.size

pub record AnnotationWithin (a : TableAnnotation) : Type 0 where
  pub analyte : IfThere (λ n. n ≤ max_position) a.analyte
  pub ion : IonWithin a.ion
  pub losses : Row max_losses LossWithin a.losses
  pub isotopes : IsotopesWithin a.isotopes
  pub adduct : Row max_items ItemWithin a.adduct
  pub charge : IfThere (AtMost max_charge) a.charge
  pub deviation : IfThere DeviationWithin a.deviation
  pub confidence : IfThere DecimalWithin a.confidence

-- ---- the order of losses and items does not matter

pub same_within : {a b : TableAnnotation} → SameFields a b → AnnotationWithin a → AnnotationWithin b
same_within e w =
    record {
      analyte = subst (IfThere (λ n. n ≤ max_position)) e.analyte w.analyte;
      ion = subst IonWithin e.ion w.ion;
      losses = row_perm e.losses w.losses;
      isotopes = subst IsotopesWithin e.isotopes w.isotopes;
      adduct = row_perm e.adduct w.adduct;
      charge = subst (IfThere (AtMost max_charge)) e.charge w.charge;
      deviation = subst (IfThere DeviationWithin) e.deviation w.deviation;
      confidence = subst (IfThere DecimalWithin) e.confidence w.confidence;
    }
