-- Lines in which nothing may be written in two ways, as what was counted of them tells, and what is given for a line. Assumes nothing.
use Rattle.std.specs.Prelude.{ℕ, Bool, not, ◌&&◌, cond, List, ◌++◌, eqb}
use Rattle.rules.specs.Bytes.{bytes}
use Rattle.counts.specs.declared.Counts.{Counts}
use Rattle.read_annotation.specs.declared.Parts.{Parts}
use Rattle.respell_annotation.specs.Annotations.{annotation_spelled}
use Rattle.measure_line.specs.declared.Totals.{Totals}
use Rattle.measure_line.specs.Walks.{line_given_by}

-- nothing free that no count tells of, no losses, no isotopes, no adduct items, and no units
unfoldable pub is_plain : Counts → Bool → Bool
is_plain n free = not free && (eqb n.losses 0 && (eqb n.isotopes 0 && (eqb n.items 0 && eqb n.units 0)))

-- an annotation behind a comma
abbrev pub next_spelled : List ℕ → Parts → List ℕ
next_spelled s p = bytes "," ++ annotation_spelled s p

-- all annotations of a line, of which the first was read
abbrev pub line_spelled : List ℕ → Parts → List ℕ
line_spelled line p = line_given_by annotation_spelled next_spelled line p

-- the line itself, or spelled anew, where t was counted of it and p read of its first annotation
unfoldable pub spelling_of : List ℕ → Totals → Parts → List ℕ
spelling_of line t p = cond (is_plain t.counts t.free) line (line_spelled line p)
