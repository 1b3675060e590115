-- The preferred line of a sound table has at most 65,536 bytes, whether or not it is within the longest line. Assumes nothing.
use Prim.Native.Nat.{ℕ, ◌≤◌}
use mathlib.Core.Bool.{Bool, true, false}
use mathlib.Core.List.{List, [], ◌∷◌, ◌++◌, map}
use native.Mathlib.Omega.{arith}
use lib.ListN.{length, length-append}
use Rattle.lang.specs.Parts.{Opt, silent, written, opt_text, opt_map, flat}
use Rattle.lang.specs.Mark.{In, here, later}
use Rattle.rules.specs.Bytes.{bytes}
use Rattle.rules.specs.Numbers.{digits, From}
use Rattle.rules.specs.Decimals.{Decimal, decimal_text}
use Rattle.rules.specs.Ions.{ion_text}
use Rattle.rules.specs.Losses.{loss_text}
use Rattle.rules.specs.Isotopes.{isotopes_text}
use Rattle.rules.specs.Adducts.{adduct_text}
use Rattle.rules.specs.Confidences.{in_full, confidence_text}
use Rattle.rules.specs.Annotations.{TableAnnotation, Deviation, flag_text, analyte_text, charge_text, deviation_text, annotation_text}
use Rattle.rules.specs.Lines.{next_text}
use Rattle.rules.specs.Fields.{Table}
use Rattle.rules.specs.Preferred.{shortened_annotation, count_or1, preferred}
use Rattle.rules.specs.Limits.{max_position, max_charge, max_annotations}
use Rattle.rules.specs.Stored.{value_or0}
use Rattle.rules.specs.Answers.{Sound}
use Rattle.rules.specs.Editions.{Edition}
use Rattle.rules.proofs.Bounds.{Bounded, table_few, table_bounded}
use Rattle.rules.proofs.FitDecimals.{DeviationFits, ConfidenceFits}
use Rattle.rules.proofs.FitAnnotations.{InRange, table_in_range}
use Rattle.print_table.proofs.Lengths.{row_short, number_short, decimal_short, ion_short, losses_short, isotopes_short, adduct_short}

-- ---- an annotation

flag_short : (w : List ℕ) (b : Bool) → length (flag_text w b) ≤ length w
flag_short w true = omega arith
flag_short w false = omega arith

analyte_short : (x : Opt ℕ) → value_or0 (λ n. n) x ≤ max_position → length (opt_text analyte_text x) ≤ 6
analyte_short silent h = omega arith
analyte_short (written n) h = omega (arith, length-append (digits n) (bytes "@"), number_short n (omega arith))

charge_short : (x : Opt (From 2)) → count_or1 x ≤ max_charge → length (opt_text charge_text x) ≤ 6
charge_short silent h = omega arith
charge_short (written n) h = omega (arith, number_short n.value (omega arith))

deviation_short : (x : Opt Deviation) → DeviationFits x → length (opt_text deviation_text x) ≤ 27
deviation_short silent h = omega arith
deviation_short (written d) h =
    let m = flag_text (bytes "-") d.minus in
    let p = flag_text (bytes "ppm") d.ppm in
    omega (
      arith,
      length-append m (decimal_text d.size ++ p),
      length-append (decimal_text d.size) p,
      flag_short (bytes "-") d.minus,
      flag_short (bytes "ppm") d.ppm,
      decimal_short d.size h.places h.size,
    )

confidence_short : (x : Opt Decimal) → ConfidenceFits x → length (opt_text confidence_text (opt_map in_full x)) ≤ 23
confidence_short silent h = omega arith
confidence_short (written d) h = let v = h.value in omega (arith, decimal_short d h.places (omega arith))

-- 1 + 6 + 271 + 2104 + 56 + 699 + 6 + 27 + 23 is 3193
pub annotation_short : (a : TableAnnotation) → InRange a → Bounded a → length (annotation_text (shortened_annotation a)) ≤ 3193
annotation_short a r b =
    let s = shortened_annotation a in
    let confidence = opt_text confidence_text s.confidence in
    let deviation = opt_text deviation_text s.deviation ++ confidence in
    let charge = opt_text charge_text s.charge ++ deviation in
    let adduct = adduct_text s.adduct ++ charge in
    let isotopes = isotopes_text s.isotopes ++ adduct in
    let losses = flat loss_text s.losses ++ isotopes in
    let ion = ion_text s.ion ++ losses in
    let analyte = opt_text analyte_text s.analyte ++ ion in
    omega (
      arith,
      length-append (flag_text (bytes "&") s.marked) analyte,
      length-append (opt_text analyte_text s.analyte) ion,
      length-append (ion_text s.ion) losses,
      length-append (flat loss_text s.losses) isotopes,
      length-append (isotopes_text s.isotopes) adduct,
      length-append (adduct_text s.adduct) charge,
      length-append (opt_text charge_text s.charge) deviation,
      length-append (opt_text deviation_text s.deviation) confidence,
      flag_short (bytes "&") a.marked,
      analyte_short a.analyte r.analyte,
      ion_short a.ion r.ion b.ion,
      losses_short a.losses b.losses b.loss r.loss,
      isotopes_short a.isotopes b.isotopes r.isotope,
      adduct_short a.adduct b.adduct b.item r.item,
      charge_short a.charge r.charge,
      deviation_short a.deviation r.deviation,
      confidence_short a.confidence r.confidence,
    )

-- ---- a line

-- at most 16 annotations, and a comma before each but the first
abbrev pub longest_line : ℕ
longest_line = 51103

joined_short : (t : Table) → length t ≤ max_annotations → ((a : TableAnnotation) → In a t → length (annotation_text (shortened_annotation a)) ≤ 3193)
    → length (preferred t) ≤ longest_line
joined_short [] few h = omega arith
joined_short (a ∷ t) few h =
    let next = flat next_text (map shortened_annotation t) in
    omega (
      arith,
      length-append (annotation_text (shortened_annotation a)) next,
      h a here,
      row_short next_text shortened_annotation 3194 t (λ b i. omega (arith, h b (later i))),
    )

pub line_short : {e : Edition} (t : Table) → Sound e t → length (preferred t) ≤ longest_line
line_short t s = joined_short t (table_few t s) (λ a i. annotation_short a (table_in_range t s a i) (table_bounded t s a i))
