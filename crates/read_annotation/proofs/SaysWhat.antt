-- What an annotation says: the same fields, and losses and adduct items in an order of their own. Assumes nothing.
use mathlib.Core.Path.{refl}
use mathlib.Core.Bool.{Bool, true, false, ◌&&◌}
use mathlib.Core.List.{List, map}
use lib.Dec.{T}
use Rattle.lang.specs.Parts.{opt_map}
use Rattle.lang.specs.Order.{Perm, rising}
use Rattle.rules.specs.Numbers.{Number}
use Rattle.rules.specs.Ions.{ion_map}
use Rattle.rules.specs.Losses.{Loss, loss_map}
use Rattle.rules.specs.Isotopes.{isotopes_map}
use Rattle.rules.specs.Adducts.{Item, item_map}
use Rattle.rules.specs.Confidences.{meant_decimal}
use Rattle.rules.specs.Annotations.{TableAnnotation, SpelledAnnotation}
use Rattle.rules.specs.Fields.{filled, Says, filled_cut}
use Rattle.rules.specs.Preferred.{loss_le, item_le}

-- an annotation as a table has it
abbrev pub table_of : SpelledAnnotation → List (Loss Number) → List (Item Number) → TableAnnotation
table_of a ls xs =
    record {
      marked = a.marked;
      analyte = a.analyte;
      ion = ion_map filled filled_cut a.ion;
      losses = ls;
      isotopes = isotopes_map filled a.isotopes;
      adduct = xs;
      charge = a.charge;
      deviation = a.deviation;
      confidence = opt_map meant_decimal a.confidence;
    }

both : (x y : Bool) → T x → T y → T (x && y)
both true y p q = q
both false y p q = p

pub says_so : (a : SpelledAnnotation) (ls : List (Loss Number)) (xs : List (Item Number)) → Perm (map (loss_map filled) a.losses) ls → T (rising loss_le ls)
    → Perm (map (item_map filled) a.adduct) xs → T (rising item_le xs) → Says a (table_of a ls xs)
says_so a ls xs p l q x =
    record {
      fields = record { marked = refl; analyte = refl; ion = refl; losses = p; isotopes = refl; adduct = q; charge = refl; deviation = refl; confidence = refl };
      order = both (rising loss_le ls) (rising item_le xs) l x;
    }
