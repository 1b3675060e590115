-- Every spelling means a table: the one with its losses and adduct items sorted. Assumes nothing.
use mathlib.Core.Path.{refl}
use mathlib.Core.List.{[], ◌∷◌}
use lib.Dec.{T}
use Rattle.lang.specs.Order.{rising, Each, none, next}
use Rattle.lang.proofs.Deriv.{and_i}
use Rattle.lang.proofs.Sort.{Order, sorted, sorted_perm, sorted_rising}
use Rattle.lang.proofs.Lex.{by_key_lem}
use Rattle.rules.specs.Annotations.{TableAnnotation, SpelledAnnotation}
use Rattle.rules.specs.Lines.{Spelling}
use Rattle.rules.specs.Preferred.{loss_key, item_key, loss_le, item_le}
use Rattle.rules.specs.Fields.{filled_annotation, in_order, SameFields, Says}
use Rattle.rules.proofs.TableOf.{arranged, table_of}

-- losses, and adduct items, are compared by their keys
pub loss_order : Order loss_le
loss_order = by_key_lem loss_key

pub item_order : Order item_le
item_order = by_key_lem item_key

pub arranged_in_order : (a : TableAnnotation) → T (in_order (arranged a))
arranged_in_order a =
    and_i (rising loss_le (sorted loss_le a.losses)) (rising item_le (sorted item_le a.adduct))
    (sorted_rising loss_order a.losses) (sorted_rising item_order a.adduct)

pub arranged_same : (a : TableAnnotation) → SameFields a (arranged a)
arranged_same a =
    record {
      marked = refl;
      analyte = refl;
      ion = refl;
      losses = sorted_perm loss_le a.losses;
      isotopes = refl;
      adduct = sorted_perm item_le a.adduct;
      charge = refl;
      deviation = refl;
      confidence = refl;
    }

pub says_arranged : (a : SpelledAnnotation) → Says a (arranged (filled_annotation a))
says_arranged a = record { fields = arranged_same (filled_annotation a); order = arranged_in_order (filled_annotation a) }

pub means_some : (s : Spelling) → Each Says s (table_of s)
means_some [] = none
means_some (a ∷ s) = next (says_arranged a) (means_some s)
