-- Prefix and ion as the record of an annotation says. Assumes nothing.
use Rattle.std.specs.Prelude.{ℕ, cond, List, [], ◌++◌, eqb, get_or, drop}
use Rattle.rules.specs.Bytes.{bytes}
use Rattle.rules.specs.Numbers.{digits}
use Rattle.rules.specs.Layout.{marked_at, analyte_present_at, analyte_at}
use Rattle.slices.specs.Numbers.{u16_at}
use Rattle.print_ion.specs.Ions.{ion_printed}

unfoldable pub flag_printed : List ℕ → List ℕ
flag_printed s = cond (eqb (get_or s marked_at 0) 0) [] (bytes "&")

unfoldable pub analyte_printed : List ℕ → List ℕ
analyte_printed s = cond (eqb (get_or s analyte_present_at 0) 0) [] (digits (u16_at (drop analyte_at s)) ++ bytes "@")

abbrev pub front_printed : List ℕ → List ℕ → List ℕ → List ℕ
front_printed s u t = flag_printed s ++ (analyte_printed s ++ ion_printed s u t)
