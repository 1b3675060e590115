-- Document 01, "The stored table": how wide each record is and where its fields stand, reckoned from the records' own fields. Where
-- a field stands does not depend on the values, so the fields of one plain thing of each sort tell it for all. Assumes nothing.
use Rattle.std.specs.Prelude.{ℕ, zero, suc, ◌+◌, false, List, [], ◌∷◌, ◌++◌, map, T, ltb, length}
use Rattle.lang.specs.Parts.{silent}
use Rattle.rules.specs.Bytes.{bytes}
use Rattle.rules.specs.Numbers.{Number}
use Rattle.rules.specs.Formulas.{FormulaUnit, plain}
use Rattle.rules.specs.Ions.{precursor}
use Rattle.rules.specs.Losses.{minus, lost_name_lem, Loss}
use Rattle.rules.specs.Isotopes.{Shift, no_isotope}
use Rattle.rules.specs.Adducts.{electron, Item}
use Rattle.rules.specs.Annotations.{TableAnnotation}
use Rattle.rules.specs.Elements.{symbols}
use Rattle.rules.specs.Editions.{Edition, current}
use Rattle.rules.specs.Stored.{Field, unit_record, loss_record, isotope_record, item_record, common_fields, added_fields, header}

-- ---- fields in a row

-- how many bytes each field has
abbrev pub widths : List Field → List ℕ
widths fs = map (λ f. f.width) fs

-- how many bytes fields of these widths have together
abbrev pub sum : List ℕ → ℕ
sum [] = 0
sum (w ∷ ws) = w + sum ws

-- where field i begins: behind the i fields before it
abbrev pub before : ℕ → List ℕ → ℕ
before zero ws = 0
before (suc i) [] = 0
before (suc i) (w ∷ ws) = w + before i ws

-- ---- one plain thing of each sort

abbrev pub one : Number
one = record { value = 1; least = tt }

pub first_known : T (ltb 0 (length symbols))
unfolding symbols
first_known = tt

-- `H`
abbrev pub plain_unit : FormulaUnit Number
plain_unit = plain (record { which = 0; known = first_known }) one

-- `-[A]`
abbrev pub plain_loss : Loss Number
plain_loss = record { sign = minus; count = silent; what = lost_name_lem (record { bytes = bytes "A"; good = tt }) }

-- `-i`
abbrev pub plain_shift : Shift Number
plain_shift = record { sign = minus; count = one }

-- `-e`
abbrev pub plain_item : Item Number
plain_item = record { sign = minus; count = one; what = electron }

-- `p`
abbrev pub plain_annotation : TableAnnotation
plain_annotation =
    record {
      marked = false;
      analyte = silent;
      ion = precursor;
      losses = [];
      isotopes = no_isotope;
      adduct = [];
      charge = silent;
      deviation = silent;
      confidence = silent;
    }

-- ---- how wide the fields of a record are

abbrev pub header_widths : List ℕ
header_widths = widths (header current [])

-- of an annotation in every edition
abbrev pub common_widths : List ℕ
common_widths = widths (common_fields plain_annotation)

-- of what an edition adds
abbrev pub added_widths : Edition → List ℕ
added_widths e = widths (added_fields e plain_annotation)

abbrev pub annotation_widths : Edition → List ℕ
annotation_widths e = common_widths ++ added_widths e

abbrev pub loss_widths : List ℕ
loss_widths = widths (loss_record plain_loss)

abbrev pub isotope_widths : List ℕ
isotope_widths = widths (isotope_record plain_shift 0 0 0)

abbrev pub item_widths : List ℕ
item_widths = widths (item_record plain_item)

abbrev pub unit_widths : List ℕ
unit_widths = widths (unit_record plain_unit)

-- ---- how many bytes a record has

abbrev pub common_width : ℕ
common_width = sum common_widths

abbrev pub added_width : Edition → ℕ
added_width e = sum (added_widths e)

abbrev pub annotation_width : Edition → ℕ
annotation_width e = common_width + added_width e

abbrev pub loss_width : ℕ
loss_width = sum loss_widths

abbrev pub isotope_width : ℕ
isotope_width = sum isotope_widths

abbrev pub item_width : ℕ
item_width = sum item_widths

abbrev pub unit_width : ℕ
unit_width = sum unit_widths

-- ---- where the fields of an annotation stand

abbrev pub kind_at : ℕ
kind_at = before 0 common_widths

abbrev pub marked_at : ℕ
marked_at = before 1 common_widths

abbrev pub analyte_present_at : ℕ
analyte_present_at = before 2 common_widths

abbrev pub letter_at : ℕ
letter_at = before 3 common_widths

abbrev pub analyte_at : ℕ
analyte_at = before 4 common_widths

abbrev pub position_at : ℕ
position_at = before 5 common_widths

abbrev pub last_at : ℕ
last_at = before 6 common_widths

abbrev pub charge_at : ℕ
charge_at = before 7 common_widths

abbrev pub deviation_kind_at : ℕ
deviation_kind_at = before 8 common_widths

abbrev pub deviation_places_at : ℕ
deviation_places_at = before 9 common_widths

abbrev pub confidence_present_at : ℕ
confidence_present_at = before 10 common_widths

abbrev pub confidence_places_at : ℕ
confidence_places_at = before 11 common_widths

-- behind a byte that is not used
abbrev pub deviation_at : ℕ
deviation_at = before 13 common_widths

abbrev pub confidence_at : ℕ
confidence_at = before 14 common_widths

abbrev pub text_length_at : ℕ
text_length_at = before 15 common_widths

abbrev pub unit_count_at : ℕ
unit_count_at = before 16 common_widths

abbrev pub loss_count_at : ℕ
loss_count_at = before 17 common_widths

abbrev pub isotope_count_at : ℕ
isotope_count_at = before 18 common_widths

abbrev pub item_count_at : ℕ
item_count_at = before 19 common_widths

-- what edition 2 adds stands behind the fields of every edition
abbrev pub residues_at : ℕ
residues_at = common_width

-- ---- of a loss, and of an adduct item, which has its fields at the same places

abbrev pub sign_at : ℕ
sign_at = before 0 loss_widths

abbrev pub content_kind_at : ℕ
content_kind_at = before 1 loss_widths

abbrev pub count_at : ℕ
count_at = before 2 loss_widths

-- units or name bytes
abbrev pub content_size_at : ℕ
content_size_at = before 3 loss_widths

-- ---- of an isotope

abbrev pub isotope_sign_at : ℕ
isotope_sign_at = before 0 isotope_widths

abbrev pub isotope_kind_at : ℕ
isotope_kind_at = before 1 isotope_widths

abbrev pub isotope_shift_at : ℕ
isotope_shift_at = before 2 isotope_widths

abbrev pub isotope_nucleons_at : ℕ
isotope_nucleons_at = before 3 isotope_widths

abbrev pub isotope_element_at : ℕ
isotope_element_at = before 4 isotope_widths

-- ---- of a unit

abbrev pub unit_nucleons_at : ℕ
unit_nucleons_at = before 0 unit_widths

abbrev pub unit_element_at : ℕ
unit_element_at = before 1 unit_widths

abbrev pub atom_count_at : ℕ
atom_count_at = before 2 unit_widths

-- ---- of the header: edition and length, then the (count, offset) pair of each section

abbrev pub edition_at : ℕ
edition_at = before 0 header_widths

abbrev pub length_at : ℕ
length_at = before 1 header_widths

abbrev pub annotation_pair_at : ℕ
annotation_pair_at = before 2 header_widths

abbrev pub loss_pair_at : ℕ
loss_pair_at = before 4 header_widths

abbrev pub isotope_pair_at : ℕ
isotope_pair_at = before 6 header_widths

abbrev pub item_pair_at : ℕ
item_pair_at = before 8 header_widths

abbrev pub unit_pair_at : ℕ
unit_pair_at = before 10 header_widths

abbrev pub text_pair_at : ℕ
text_pair_at = before 12 header_widths

-- ---- the sections, in the order in which they follow the header

abbrev pub annotation_section : ℕ
annotation_section = 0

abbrev pub loss_section : ℕ
loss_section = 1

abbrev pub isotope_section : ℕ
isotope_section = 2

abbrev pub item_section : ℕ
item_section = 3

abbrev pub unit_section : ℕ
unit_section = 4

abbrev pub text_section : ℕ
text_section = 5
