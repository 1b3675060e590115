-- The fields of a table, without bounds, and what a spelling means: document 01, "One table, several spellings".
-- A table has the fields of a spelling; but where a 1 may be written or left out it has the number, where the 0 of a confidence may
-- (document 02, M-102) the decimal, where the letters of an internal ion may (M-113) its cleavage, and its losses and adduct items stand in preferred order. Assumes nothing.
use Rattle.std.specs.Prelude.{ℕ, ◌≡◌, Bool, ◌&&◌, List, T}
use Rattle.lang.specs.Parts.{silent, written}
use Rattle.lang.specs.Order.{Perm, rising, Each}
use Rattle.rules.specs.Numbers.{Number}
use Rattle.rules.specs.Formulas.{Written}
use Rattle.rules.specs.Ions.{Letters, Cleavage}
use Rattle.rules.specs.Editions.{LineEdition}
use Rattle.rules.specs.Confidences.{meant_decimal}
use Rattle.rules.specs.Annotations.{TableAnnotation, SpelledAnnotation, annotation_map}
use Rattle.rules.specs.Lines.{Spelling, line_text, within}
use Rattle.rules.specs.Preferred.{loss_le, item_le}

abbrev pub Table : Type 0
Table = List TableAnnotation

-- a count left out is 1
abbrev pub filled : Written → Number
filled silent = record { value = 1; least = tt }
filled (written n) = n

-- letters left out are yb
abbrev pub filled_cut : Letters → Cleavage
filled_cut silent = record { which = 4; known = tt }
filled_cut (written c) = c

-- an annotation with every count, and the letters, that are left out filled in, and the decimal that its confidence means
abbrev pub filled_annotation : SpelledAnnotation → TableAnnotation
filled_annotation a = annotation_map filled filled_cut meant_decimal a

-- the losses, and the adduct items, stand in preferred order
abbrev pub in_order : TableAnnotation → Bool
in_order a = rising loss_le a.losses && rising item_le a.adduct

-- the fields of an annotation are those of another: the losses and the adduct items in any order, all else the same
pub record SameFields (a b : TableAnnotation) : Type 0 where
  pub marked : a.marked ≡ b.marked
  pub analyte : a.analyte ≡ b.analyte
  pub ion : a.ion ≡ b.ion
  pub losses : Perm a.losses b.losses
  pub isotopes : a.isotopes ≡ b.isotopes
  pub adduct : Perm a.adduct b.adduct
  pub charge : a.charge ≡ b.charge
  pub deviation : a.deviation ≡ b.deviation
  pub confidence : a.confidence ≡ b.confidence

-- an annotation as it is written, and as a table has it
pub record Says (a : SpelledAnnotation) (b : TableAnnotation) : Type 0 where
  pub fields : SameFields (filled_annotation a) b
  pub order : T (in_order b)

-- some spelling of the line, in an edition of lines, means the table
pub record Spells (l : LineEdition) (t : Table) (line : List ℕ) : Type 0 where
  pub spelling : Spelling
  pub edition : T (within l spelling)
  pub text : line_text spelling ≡ line
  pub says : Each Says spelling t
