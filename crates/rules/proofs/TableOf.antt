-- The table of a spelling, as a function: its losses and adduct items sorted. Assumes nothing.
use mathlib.Core.List.{map}
use Rattle.lang.proofs.Sort.{sorted}
use Rattle.rules.specs.Annotations.{TableAnnotation}
use Rattle.rules.specs.Lines.{Spelling}
use Rattle.rules.specs.Preferred.{loss_le, item_le}
use Rattle.rules.specs.Fields.{filled_annotation, Table}

-- an annotation with its losses and its adduct items in preferred order
abbrev pub arranged : TableAnnotation → TableAnnotation
arranged a =
    record {
      marked = a.marked;
      analyte = a.analyte;
      ion = a.ion;
      losses = sorted loss_le a.losses;
      isotopes = a.isotopes;
      adduct = sorted item_le a.adduct;
      charge = a.charge;
      deviation = a.deviation;
      confidence = a.confidence;
    }

abbrev pub table_of : Spelling → Table
table_of s = map (λ a. arranged (filled_annotation a)) s
