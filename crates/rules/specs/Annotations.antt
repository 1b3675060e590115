-- Document 01, "Shape of a line": an annotation is, in this order: `&` optional; analyte number and `@` optional; ion; losses;
-- isotopes; adduct optional; charge optional; deviation optional; confidence optional. Assumes nothing.
use Rattle.std.specs.Prelude.{ℕ, Bool, true, false, List, [], ◌++◌, map}
use Rattle.lang.specs.Parts.{Opt, opt_text, opt_map, flat}
use Rattle.rules.specs.Bytes.{bytes}
use Rattle.rules.specs.Numbers.{digits, From, Number, number_text}
use Rattle.rules.specs.Decimals.{Decimal, decimal_text}
use Rattle.rules.specs.Formulas.{Written}
use Rattle.rules.specs.Ions.{Letters, Cleavage, Ion, ion_text, ion_map}
use Rattle.rules.specs.Losses.{Loss, loss_text, loss_map}
use Rattle.rules.specs.Isotopes.{Isotopes, isotopes_text, isotopes_map}
use Rattle.rules.specs.Adducts.{Item, adduct_text, item_map}
use Rattle.rules.specs.Confidences.{Confidence, confidence_text}

-- 4.3: `/`, optional `-`, decimal, optional `ppm`
pub record Deviation : Type 0 where
  pub minus : Bool
  pub size : Decimal
  pub ppm : Bool

-- what may be written in several ways has a type of its own in a spelling and in a table: the counts (Free), the letters (Cut), and the confidence (Sure)
pub record Annotation (Free Cut Sure : Type 0) : Type 0 where
  pub marked : Bool
  pub analyte : Opt ℕ
  pub ion : Ion Free Cut
  pub losses : List (Loss Free)
  pub isotopes : Isotopes Free
  pub adduct : List (Item Free)
  pub charge : Opt (From 2)
  pub deviation : Opt Deviation
  pub confidence : Opt Sure

-- an annotation as it is spelled, and as a table has it
abbrev pub SpelledAnnotation : Type 0
SpelledAnnotation = Annotation Written Letters Confidence

abbrev pub TableAnnotation : Type 0
TableAnnotation = Annotation Number Cleavage Decimal

-- there, or not
abbrev pub flag_text : List ℕ → Bool → List ℕ
flag_text w true = w
flag_text w false = []

abbrev pub analyte_text : ℕ → List ℕ
analyte_text n = digits n ++ bytes "@"

-- 4.8: `^` and a number of 2 or more
abbrev pub charge_text : From 2 → List ℕ
charge_text n = bytes "^" ++ number_text n

abbrev pub deviation_text : Deviation → List ℕ
deviation_text d = bytes "/" ++ (flag_text (bytes "-") d.minus ++ (decimal_text d.size ++ flag_text (bytes "ppm") d.ppm))

abbrev pub annotation_text : SpelledAnnotation → List ℕ
annotation_text a =
    flag_text (bytes "&") a.marked ++ (opt_text analyte_text a.analyte ++ (ion_text a.ion
    ++ (flat loss_text a.losses ++ (isotopes_text a.isotopes ++ (adduct_text a.adduct
    ++ (opt_text charge_text a.charge ++ (opt_text deviation_text a.deviation ++ opt_text confidence_text a.confidence)))))))

-- with each free count, the letters and the confidence changed
abbrev pub annotation_map : {A B C D S R : Type 0} → (A → B) → (C → D) → (S → R) → Annotation A C S → Annotation B D R
annotation_map f h g a =
    record {
      marked = a.marked;
      analyte = a.analyte;
      ion = ion_map f h a.ion;
      losses = map (loss_map f) a.losses;
      isotopes = isotopes_map f a.isotopes;
      adduct = map (item_map f) a.adduct;
      charge = a.charge;
      deviation = a.deviation;
      confidence = opt_map g a.confidence;
    }
