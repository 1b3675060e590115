-- Document 01, "The stored table": the most bytes that a table may have, from the limits and the widths of the records. Assumes nothing.
use Rattle.std.specs.Prelude.{ℕ, ◌+◌, ◌*◌}
use Rattle.rules.specs.Limits.{max_line, max_annotations, max_losses, max_isotopes, max_items, max_units, max_text}
use Rattle.rules.specs.Stored.{header_size}
use Rattle.rules.specs.Editions.{current}
use Rattle.rules.specs.Layout.{annotation_width, loss_width, isotope_width, item_width, unit_width}

-- an adduct item with its units
abbrev pub max_item_bytes : ℕ
max_item_bytes = item_width + max_units * unit_width

-- of one annotation: its ion and its losses each have a text or units, and a text may be longer
abbrev pub max_annotation_bytes : ℕ
max_annotation_bytes = annotation_width current + (max_text + (max_losses * (loss_width + max_text) + (max_isotopes * isotope_width + max_items * max_item_bytes)))

-- of any table: 43,628
abbrev pub max_any_table : ℕ
max_any_table = header_size + max_annotations * max_annotation_bytes

-- of one annotation besides its texts
abbrev pub max_plain_bytes : ℕ
max_plain_bytes =
    annotation_width current + (max_units * unit_width + (max_losses * (loss_width + max_units * unit_width) + (max_isotopes * isotope_width + max_items * max_item_bytes)))

-- of the table of a line that is read: 21,372, as the texts of all annotations have no more bytes than the line
abbrev pub max_table : ℕ
max_table = header_size + (max_annotations * max_plain_bytes + max_line)
