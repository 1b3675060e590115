-- Worked lines with letters behind the `m` of internal ions: spellings of the second edition of lines alone. Document 02, M-113. Assumes nothing.
use mathlib.Core.Path.{refl}
use mathlib.Core.List.{[], ◌∷◌}
use Rattle.lang.specs.Parts.{silent, written}
use Rattle.rules.specs.Bytes.{bytes}
use Rattle.rules.specs.Numbers.{digits}
use Rattle.rules.specs.Decimals.{whole, last_digits, point_text}
use Rattle.rules.specs.Elements.{symbols}
use Rattle.rules.specs.Losses.{minus}
use Rattle.rules.specs.Sequences.{read_from}
use Rattle.rules.proofs.worked.Spell.{text, H2O, cleaved, ◌with◌, marked, analyte, loss}
use Rattle.rules.proofs.worked.Row.{Worked}
use Rattle.rules.proofs.worked.Bounds.{Ruled, Limited, refusal}

-- all nine: 1 to 9 in the order of their names, and yb, the fifth, is 0 and not written
pub nine : Worked "mxa2:3,mxb2:3,mxc2:3,mya2:3,myb2:3,myc2:3,mza2:3,mzb2:3,mzc2:3"
    (cleaved 0 tt 2 3 silent ∷ cleaved 1 tt 2 3 silent ∷ cleaved 2 tt 2 3 silent ∷ cleaved 3 tt 2 3 silent ∷ cleaved 4 tt 2 3 silent ∷ cleaved 5 tt 2 3 silent ∷ cleaved 6 tt 2 3 silent ∷ cleaved 7 tt 2 3 silent ∷ cleaved 8 tt 2 3 silent ∷ [])
    370
    (2 ∷ 0 ∷ 114 ∷ 1 ∷ 9 ∷ 0 ∷ 28 ∷ 0 ∷ 0 ∷ 0 ∷ 114 ∷ 1 ∷ 0 ∷ 0 ∷ 114 ∷ 1 ∷ 0 ∷ 0 ∷ 114 ∷ 1 ∷ 0 ∷ 0 ∷ 114 ∷ 1 ∷ 0 ∷ 0 ∷ 114 ∷ 1  -- header
    ∷ 2 ∷ 0 ∷ 0 ∷ 1 ∷ 0 ∷ 0 ∷ 2 ∷ 0 ∷ 3 ∷ 0 ∷ 1 ∷ 0 ∷ 0 ∷ 0 ∷ 0 ∷ 0 ∷ 0 ∷ 0 ∷ 0 ∷ 0 ∷ 0 ∷ 0 ∷ 0 ∷ 0 ∷ 0 ∷ 0 ∷ 0 ∷ 0 ∷ 0 ∷ 0 ∷ 0 ∷ 0 ∷ 0 ∷ 0 ∷ 0 ∷ 0 ∷ 0 ∷ 0  -- annotation
    ∷ 2 ∷ 0 ∷ 0 ∷ 2 ∷ 0 ∷ 0 ∷ 2 ∷ 0 ∷ 3 ∷ 0 ∷ 1 ∷ 0 ∷ 0 ∷ 0 ∷ 0 ∷ 0 ∷ 0 ∷ 0 ∷ 0 ∷ 0 ∷ 0 ∷ 0 ∷ 0 ∷ 0 ∷ 0 ∷ 0 ∷ 0 ∷ 0 ∷ 0 ∷ 0 ∷ 0 ∷ 0 ∷ 0 ∷ 0 ∷ 0 ∷ 0 ∷ 0 ∷ 0  -- annotation
    ∷ 2 ∷ 0 ∷ 0 ∷ 3 ∷ 0 ∷ 0 ∷ 2 ∷ 0 ∷ 3 ∷ 0 ∷ 1 ∷ 0 ∷ 0 ∷ 0 ∷ 0 ∷ 0 ∷ 0 ∷ 0 ∷ 0 ∷ 0 ∷ 0 ∷ 0 ∷ 0 ∷ 0 ∷ 0 ∷ 0 ∷ 0 ∷ 0 ∷ 0 ∷ 0 ∷ 0 ∷ 0 ∷ 0 ∷ 0 ∷ 0 ∷ 0 ∷ 0 ∷ 0  -- annotation
    ∷ 2 ∷ 0 ∷ 0 ∷ 4 ∷ 0 ∷ 0 ∷ 2 ∷ 0 ∷ 3 ∷ 0 ∷ 1 ∷ 0 ∷ 0 ∷ 0 ∷ 0 ∷ 0 ∷ 0 ∷ 0 ∷ 0 ∷ 0 ∷ 0 ∷ 0 ∷ 0 ∷ 0 ∷ 0 ∷ 0 ∷ 0 ∷ 0 ∷ 0 ∷ 0 ∷ 0 ∷ 0 ∷ 0 ∷ 0 ∷ 0 ∷ 0 ∷ 0 ∷ 0  -- annotation
    ∷ 2 ∷ 0 ∷ 0 ∷ 0 ∷ 0 ∷ 0 ∷ 2 ∷ 0 ∷ 3 ∷ 0 ∷ 1 ∷ 0 ∷ 0 ∷ 0 ∷ 0 ∷ 0 ∷ 0 ∷ 0 ∷ 0 ∷ 0 ∷ 0 ∷ 0 ∷ 0 ∷ 0 ∷ 0 ∷ 0 ∷ 0 ∷ 0 ∷ 0 ∷ 0 ∷ 0 ∷ 0 ∷ 0 ∷ 0 ∷ 0 ∷ 0 ∷ 0 ∷ 0  -- annotation
    ∷ 2 ∷ 0 ∷ 0 ∷ 6 ∷ 0 ∷ 0 ∷ 2 ∷ 0 ∷ 3 ∷ 0 ∷ 1 ∷ 0 ∷ 0 ∷ 0 ∷ 0 ∷ 0 ∷ 0 ∷ 0 ∷ 0 ∷ 0 ∷ 0 ∷ 0 ∷ 0 ∷ 0 ∷ 0 ∷ 0 ∷ 0 ∷ 0 ∷ 0 ∷ 0 ∷ 0 ∷ 0 ∷ 0 ∷ 0 ∷ 0 ∷ 0 ∷ 0 ∷ 0  -- annotation
    ∷ 2 ∷ 0 ∷ 0 ∷ 7 ∷ 0 ∷ 0 ∷ 2 ∷ 0 ∷ 3 ∷ 0 ∷ 1 ∷ 0 ∷ 0 ∷ 0 ∷ 0 ∷ 0 ∷ 0 ∷ 0 ∷ 0 ∷ 0 ∷ 0 ∷ 0 ∷ 0 ∷ 0 ∷ 0 ∷ 0 ∷ 0 ∷ 0 ∷ 0 ∷ 0 ∷ 0 ∷ 0 ∷ 0 ∷ 0 ∷ 0 ∷ 0 ∷ 0 ∷ 0  -- annotation
    ∷ 2 ∷ 0 ∷ 0 ∷ 8 ∷ 0 ∷ 0 ∷ 2 ∷ 0 ∷ 3 ∷ 0 ∷ 1 ∷ 0 ∷ 0 ∷ 0 ∷ 0 ∷ 0 ∷ 0 ∷ 0 ∷ 0 ∷ 0 ∷ 0 ∷ 0 ∷ 0 ∷ 0 ∷ 0 ∷ 0 ∷ 0 ∷ 0 ∷ 0 ∷ 0 ∷ 0 ∷ 0 ∷ 0 ∷ 0 ∷ 0 ∷ 0 ∷ 0 ∷ 0  -- annotation
    ∷ 2 ∷ 0 ∷ 0 ∷ 9 ∷ 0 ∷ 0 ∷ 2 ∷ 0 ∷ 3 ∷ 0 ∷ 1 ∷ 0 ∷ 0 ∷ 0 ∷ 0 ∷ 0 ∷ 0 ∷ 0 ∷ 0 ∷ 0 ∷ 0 ∷ 0 ∷ 0 ∷ 0 ∷ 0 ∷ 0 ∷ 0 ∷ 0 ∷ 0 ∷ 0 ∷ 0 ∷ 0 ∷ 0 ∷ 0 ∷ 0 ∷ 0 ∷ 0 ∷ 0  -- annotation
    ∷ [])
    "mxa2:3,mxb2:3,mxc2:3,mya2:3,m2:3,myc2:3,mza2:3,mzb2:3,mzc2:3"
unfolding digits whole last_digits point_text symbols read_from
nine = record { text = refl; limits = refl; form = refl; rules = refl; sum = refl; long = refl; stores = refl; writes = refl }

-- among the other parts of an annotation
pub among_parts : Worked "&1@mzc3:6{PEPT}-H2O"
    (cleaved 8 tt 3 6 (written (text "PEPT" tt)) with marked with analyte 1 with loss minus silent H2O ∷ [])
    88
    (2 ∷ 0 ∷ 88 ∷ 0 ∷ 1 ∷ 0 ∷ 28 ∷ 0 ∷ 1 ∷ 0 ∷ 66 ∷ 0 ∷ 0 ∷ 0 ∷ 72 ∷ 0 ∷ 0 ∷ 0 ∷ 72 ∷ 0 ∷ 2 ∷ 0 ∷ 72 ∷ 0 ∷ 4 ∷ 0 ∷ 84 ∷ 0  -- header
    ∷ 2 ∷ 1 ∷ 1 ∷ 9 ∷ 1 ∷ 0 ∷ 3 ∷ 0 ∷ 6 ∷ 0 ∷ 1 ∷ 0 ∷ 0 ∷ 0 ∷ 0 ∷ 0 ∷ 0 ∷ 0 ∷ 0 ∷ 0 ∷ 0 ∷ 0 ∷ 0 ∷ 0 ∷ 0 ∷ 0 ∷ 0 ∷ 0 ∷ 4 ∷ 0 ∷ 0 ∷ 0 ∷ 1 ∷ 0 ∷ 0 ∷ 0 ∷ 4 ∷ 0  -- annotation
    ∷ 0 ∷ 0 ∷ 1 ∷ 0 ∷ 2 ∷ 0  -- loss
    ∷ 0 ∷ 0 ∷ 1 ∷ 0 ∷ 2 ∷ 0  -- unit
    ∷ 0 ∷ 0 ∷ 8 ∷ 0 ∷ 1 ∷ 0  -- unit
    ∷ 80 ∷ 69 ∷ 80 ∷ 84  -- text
    ∷ [])
    "&1@mzc3:6{PEPT}-H2O"
unfolding digits whole last_digits point_text symbols read_from
among_parts = record { text = refl; limits = refl; form = refl; rules = refl; sum = refl; long = refl; stores = refl; writes = refl }

-- ---- limits and rules count the letters as bytes

pub start_past : Limited (bytes "mxa65536:3") (cleaved 0 tt 65536 3 silent ∷ []) (refusal 4 3 ∷ [])
unfolding digits whole last_digits point_text symbols
start_past = record { text = refl; limits = refl }

pub past_its_end : Ruled "mxa2:3,myb6:3" (cleaved 0 tt 2 3 silent ∷ cleaved 4 tt 6 3 silent ∷ []) (written 7) silent
unfolding digits whole last_digits point_text symbols
past_its_end = record { text = refl; limits = refl; breach = refl; excess = refl }
