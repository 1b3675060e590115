-- Where the fields of a stored row's head stand, counted from the head's own fields. Assumes nothing.
use Rattle.std.specs.Prelude.{ℕ, List}
use Rattle.rules.specs.Layout.{widths, before}
use Rattle.rules.specs.Rows.{row_head}

-- how wide they are: m/z, intensity, the decimals of each, zero
abbrev pub head_widths : List ℕ
head_widths = widths (row_head (record { value = 0; places = 0 }) (record { value = 0; places = 0 }))

abbrev pub intensity_at : ℕ
intensity_at = before 1 head_widths

abbrev pub mz_places_at : ℕ
mz_places_at = before 2 head_widths

abbrev pub intensity_places_at : ℕ
intensity_places_at = before 3 head_widths

abbrev pub zero_at : ℕ
zero_at = before 4 head_widths
