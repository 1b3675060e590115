-- A count left out where it is 1, and filled in again: all that a table has comes back from its preferred spelling.
-- Assumes nothing.
use Prim.Native.Nat.{ℕ}
use mathlib.Core.Path.{◌≡◌, refl, sym, ap, ap₂}
use mathlib.Core.Bool.{Bool, true, false}
use mathlib.Core.List.{List, [], ◌∷◌, map}
use mathlib.Core.HLevel.{is_prop→PathP}
use native.Mathlib.Omega.{arith}
use borrow.Author.Tests.{leb-true, eqb-true}
use lib.Dec.{T, T_prop, leb, leb→le, eqb}
use Rattle.lang.specs.Parts.{Opt, silent, written, opt_map, Some, some_map}
use Rattle.lang.proofs.Means.{listed_path}
use Rattle.rules.specs.Numbers.{From, Number}
use Rattle.rules.specs.Formulas.{FormulaUnit, plain, labelled, unit_map, Formula, formula_map}
use Rattle.rules.specs.Ions.{Cleavage, Ion, series, internal, immonium, precursor, reference, named, composed, smiles, unknown, ion_map}
use Rattle.rules.specs.Losses.{Lost, lost_formula, lost_name_lem, lost_map, Loss, loss_map}
use Rattle.rules.specs.Isotopes.{Shift, shift_map, Specific, specific_map, Isotopes, no_isotope, plain_isotope, average_isotope, specific_isotopes, isotopes_map}
use Rattle.rules.specs.Adducts.{Added, added_formula, electron, added_map, Item, item_map}
use Rattle.rules.specs.Decimals.{Decimal}
use Rattle.rules.specs.Confidences.{in_full, meant_decimal}
use Rattle.rules.specs.Annotations.{TableAnnotation, Annotation, annotation_map}
use Rattle.rules.specs.Fields.{filled_annotation, Table, filled, filled_cut}
use Rattle.rules.specs.Preferred.{shortened_annotation, shortened, shortened_cut, preferred_spelling}

-- numbers with a least value are equal where their values are
pub from_path : {m : ℕ} (x y : From m) → x.value ≡ y.value → x ≡ y
from_path {m} x y p = λ i. record { value = p i; least = is_prop→PathP (λ j. T (leb m (p j))) (λ j. T_prop (leb m (p j))) x.least y.least i }

pub filled_shortened : (n : Number) → filled (shortened n) ≡ n
filled_shortened n = by (leb n.value 1) refl
  where
    by : (x : Bool) → leb n.value 1 ≡ x → filled (elim x [ true ↦ silent | false ↦ written n ]) ≡ n
    by true e =
        let h = leb→le 1 n.value n.least in
        let g = leb-true n.value 1 e in
        from_path (record { value = 1; least = tt }) n (omega arith)
    by false e = refl

-- and so do letters
pub cut_filled : (c : Cleavage) → filled_cut (shortened_cut c) ≡ c
cut_filled c = by (eqb c.which 4) refl
  where
    by : (x : Bool) → eqb c.which 4 ≡ x → filled_cut (elim x [ true ↦ silent | false ↦ written c ]) ≡ c
    by true e = listed_path (record { which = 4; known = tt }) c (sym (eqb-true c.which 4 e))
    by false e = refl

-- ---- what maps back maps back everywhere

-- lists
pub map_back : {X Y : Type 0} (f : X → Y) (g : Y → X) → ((x : X) → g (f x) ≡ x) → (l : List X) → map g (map f l) ≡ l
map_back f g gf [] = refl
map_back f g gf (x ∷ l) = ap₂ ◌∷◌ (gf x) (map_back f g gf l)

pub some_back : {X Y : Type 0} (f : X → Y) (g : Y → X) → ((x : X) → g (f x) ≡ x) → (s : Some X) → some_map g (some_map f s) ≡ s
some_back f g gf s = λ i. record { first = gf s.first i; more = map_back f g gf s.more i }

-- a confidence in full means its decimal
pub confidence_back : (x : Opt Decimal) → opt_map meant_decimal (opt_map in_full x) ≡ x
confidence_back silent = refl
confidence_back (written d) = refl

module _ {A B : Type 0} (f : A → B) (g : B → A) (gf : (x : A) → g (f x) ≡ x) where
  pub unit_back : (v : FormulaUnit A) → unit_map g (unit_map f v) ≡ v
  unit_back (plain s c) = ap (plain s) (gf c)
  unit_back (labelled a s c) = refl

  pub formula_back : (v : Formula A) → formula_map g (formula_map f v) ≡ v
  formula_back v = some_back (unit_map f) (unit_map g) unit_back v

  pub ion_back : {C D : Type 0} (h : C → D) (k : D → C) → ((c : C) → k (h c) ≡ c) → (v : Ion A C) → ion_map g k (ion_map f h v) ≡ v
  ion_back h k kh (series s n t) = refl
  ion_back h k kh (internal c m n t) = ap (λ c. internal c m n t) (kh c)
  ion_back h k kh (immonium a m) = refl
  ion_back h k kh precursor = refl
  ion_back h k kh (reference n) = refl
  ion_back h k kh (named t) = refl
  ion_back h k kh (composed x) = ap composed (formula_back x)
  ion_back h k kh (smiles t) = refl
  ion_back h k kh (unknown n) = refl

  pub lost_back : (v : Lost A) → lost_map g (lost_map f v) ≡ v
  lost_back (lost_formula x) = ap lost_formula (formula_back x)
  lost_back (lost_name_lem n) = refl

  pub loss_back : (v : Loss A) → loss_map g (loss_map f v) ≡ v
  loss_back v = λ i. record { sign = v.sign; count = v.count; what = lost_back v.what i }

  pub shift_back : (v : Shift A) → shift_map g (shift_map f v) ≡ v
  shift_back v = λ i. record { sign = v.sign; count = gf v.count i }

  pub specific_back : (v : Specific A) → specific_map g (specific_map f v) ≡ v
  specific_back v = λ i. record { shift = shift_back v.shift i; nucleons = v.nucleons; symbol = v.symbol }

  pub isotopes_back : (v : Isotopes A) → isotopes_map g (isotopes_map f v) ≡ v
  isotopes_back no_isotope = refl
  isotopes_back (plain_isotope x) = ap plain_isotope (shift_back x)
  isotopes_back (average_isotope x) = ap average_isotope (shift_back x)
  isotopes_back (specific_isotopes xs) = ap specific_isotopes (some_back (specific_map f) (specific_map g) specific_back xs)

  pub added_back : (v : Added A) → added_map g (added_map f v) ≡ v
  added_back (added_formula x) = ap added_formula (formula_back x)
  added_back electron = refl

  pub item_back : (v : Item A) → item_map g (item_map f v) ≡ v
  item_back v = λ i. record { sign = v.sign; count = gf v.count i; what = added_back v.what i }

  pub annotation_back : (v : Annotation A Cleavage Decimal) → annotation_map g filled_cut meant_decimal (annotation_map f shortened_cut in_full v) ≡ v
  annotation_back v =
      λ i. record {
        marked = v.marked;
        analyte = v.analyte;
        ion = ion_back shortened_cut filled_cut cut_filled v.ion i;
        losses = map_back (loss_map f) (loss_map g) loss_back v.losses i;
        isotopes = isotopes_back v.isotopes i;
        adduct = map_back (item_map f) (item_map g) item_back v.adduct i;
        charge = v.charge;
        deviation = v.deviation;
        confidence = confidence_back v.confidence i;
      }

-- ---- shortened, then filled

pub lost_filled : (v : Lost Number) → lost_map filled (lost_map shortened v) ≡ v
lost_filled = lost_back shortened filled filled_shortened

pub added_filled : (v : Added Number) → added_map filled (added_map shortened v) ≡ v
added_filled = added_back shortened filled filled_shortened

pub annotation_filled : (v : TableAnnotation) → filled_annotation (shortened_annotation v) ≡ v
annotation_filled = annotation_back shortened filled filled_shortened

pub table_filled : (t : Table) → map filled_annotation (preferred_spelling t) ≡ t
table_filled = map_back shortened_annotation filled_annotation annotation_filled
