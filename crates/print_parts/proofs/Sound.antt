-- In a sound table each number, each row of units and each name has room in its record. Assumes nothing.
use Prim.Native.Nat.{ℕ, ◌^◌, ◌<◌}
use mathlib.Core.Bool.{Bool, true, false, not, ◌||◌}
use mathlib.Core.List.{[], List, ◌∷◌, map}
use native.Mathlib.Omega.{arith}
use lib.Dec.{T, leb, le→leb}
use Rattle.lang.specs.Parts.{Opt, silent, written, items}
use Rattle.lang.specs.Mark.{In, here, later}
use Rattle.rules.specs.Numbers.{Number}
use Rattle.rules.specs.Formulas.{FormulaUnit, plain, labelled}
use Rattle.rules.specs.Losses.{Loss}
use Rattle.rules.specs.Adducts.{Item}
use Rattle.rules.specs.Isotopes.{Isotopes, no_isotope, plain_isotope, average_isotope, specific_isotopes}
use Rattle.rules.specs.Annotations.{TableAnnotation, Deviation}
use Rattle.rules.specs.House.{deviation_rule}
use Rattle.rules.specs.Stored.{Field, signed, specific_record, isotope_records}
use Rattle.rules.specs.Layout.{isotope_widths}
use Rattle.rules.proofs.OneRecord.{Fits}
use Rattle.rules.proofs.Bounds.{Bounded}
use Rattle.rules.proofs.FitParts.{UnitFits}
use Rattle.rules.proofs.FitDecimals.{DeviationFits}
use Rattle.rules.proofs.FitAnnotations.{InRange}
use Rattle.put_formula.proofs.PutUnits.{UnitUpTo}
use Rattle.print_parts.proofs.Stored.{LossOk, ItemOk}
use Rattle.print_parts.proofs.Isotopes.{IsotopesOk}
use Rattle.print_parts.proofs.Tails.{TailOk}

unit_ok : (u : FormulaUnit Number) → UnitFits u → UnitUpTo 65535 u
unit_ok (plain s c) f = omega (arith, f.2.2.1)
unit_ok (labelled a s c) f = (omega (arith, f.1), omega (arith, f.2.2.1))

pub loss_ok : (a : TableAnnotation) → Bounded a → InRange a → (l : Loss Number) → In l a.losses → LossOk l
loss_ok a b r l i =
    let f = r.loss l i in
    let s = b.loss l i in
    record { count = omega (arith, f.self.2.2.1); few = s.few; units = λ u j. unit_ok u (f.units u j); name = s.short }

pub item_ok : (a : TableAnnotation) → Bounded a → InRange a → (x : Item Number) → In x a.adduct → ItemOk x
item_ok a b r x i =
    let f = r.item x i in
    record { count = omega (arith, f.self.2.2.1); few = b.item x i; units = λ u j. unit_ok u (f.units u j) }

in_mapped : {A B : Type 0} (f : A → B) {x : A} (xs : List A) → In x xs → In (f x) (map f xs)
in_mapped f [] i = elim i [ ]
in_mapped f (y ∷ xs) here = here
in_mapped f (y ∷ xs) (later i) = later (in_mapped f xs i)

records_ok : (x : Isotopes Number) → ((fs : List Field) → In fs (isotope_records x) → Fits isotope_widths fs) → IsotopesOk x
records_ok no_isotope h = tt
records_ok (plain_isotope x) h = omega (arith, (h _ here).2.2.1)
records_ok (average_isotope x) h = omega (arith, (h _ here).2.2.1)
records_ok (specific_isotopes xs) h = λ x i.
    let f = h (specific_record x) (in_mapped specific_record (items xs) i) in
    (omega (arith, f.2.2.1), omega (arith, f.2.2.2.1))

pub isotopes_ok : (a : TableAnnotation) → InRange a → IsotopesOk a.isotopes
isotopes_ok a r = records_ok a.isotopes r.isotope

-- 2 ^ 64 has no room in its field, so that a `-` does not stand before 0
sign_ok : (x : Opt Deviation) → DeviationFits x → T (deviation_rule x)
sign_ok silent f = tt
sign_ok (written d) f = by d.minus d.size.value f.value
  where
    by : (m : Bool) (v : ℕ) → signed m v < 2 ^ 64 → T (not m || leb 1 v)
    by true v h = le→leb 1 v (omega arith)
    by false v h = tt

pub tail_ok : (a : TableAnnotation) → InRange a → TailOk a
tail_ok a r =
    record {
      charge = r.charge;
      size = r.deviation.size;
      places = r.deviation.places;
      sign = sign_ok a.deviation r.deviation;
      share = omega (arith, r.confidence.value);
      decimals = r.confidence.places;
    }
