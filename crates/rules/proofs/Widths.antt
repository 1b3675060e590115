-- Where a field stands is the same for every thing of its sort, and a record has the bytes that its width says. Assumes nothing.
use Prim.Native.Nat.{ℕ}
use mathlib.Core.Path.{◌≡◌, refl}
use Rattle.rules.specs.Numbers.{Number}
use Rattle.rules.specs.Formulas.{FormulaUnit, plain, labelled}
use Rattle.rules.specs.Losses.{Loss}
use Rattle.rules.specs.Isotopes.{Shift}
use Rattle.rules.specs.Adducts.{Item}
use Rattle.rules.specs.Annotations.{TableAnnotation}
use Rattle.rules.specs.Fields.{Table}
use Rattle.rules.specs.Stored.{unit_record, loss_record, isotope_record, item_record, annotation_record, header_size, header}
use Rattle.rules.specs.Largest.{max_any_table, max_table}
use Rattle.rules.specs.Layout.{widths, sum, header_widths, annotation_widths, loss_widths, isotope_widths, item_widths, unit_widths}
use Rattle.rules.specs.Editions.{Edition, ed1, ed2}

pub header_widths_lem : (e : Edition) (t : Table) → widths (header e t) ≡ header_widths
header_widths_lem e t = refl

pub header_sum : sum header_widths ≡ header_size
header_sum = refl

pub annotation_widths_lem : (e : Edition) (a : TableAnnotation) → widths (annotation_record e a) ≡ annotation_widths e
annotation_widths_lem ed1 a = refl
annotation_widths_lem ed2 a = refl

pub loss_widths_lem : (l : Loss Number) → widths (loss_record l) ≡ loss_widths
loss_widths_lem l = refl

pub isotope_widths_lem : (x : Shift Number) (kind nucleons element : ℕ) → widths (isotope_record x kind nucleons element) ≡ isotope_widths
isotope_widths_lem x kind nucleons element = refl

pub item_widths_lem : (x : Item Number) → widths (item_record x) ≡ item_widths
item_widths_lem x = refl

-- an adduct item has its fields where a loss has them
pub item_loss : item_widths ≡ loss_widths
item_loss = refl

pub unit_widths_lem : (u : FormulaUnit Number) → widths (unit_record u) ≡ unit_widths
unit_widths_lem (plain s c) = refl
unit_widths_lem (labelled a s c) = refl

-- document 02's own number, and that of the writer's buffer
pub table_is : max_table ≡ 21372
table_is = refl

pub any_table_is : max_any_table ≡ 43628
any_table_is = refl
