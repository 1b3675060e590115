-- A walk that gives each annotation's preferred text gives the preferred text of a table that the line spells. Assumes nothing.
use Prim.Native.Nat.{ℕ}
use mathlib.Core.Path.{◌≡◌, refl, ap₂, ◌∙◌}
use mathlib.Core.List.{List, [], ◌∷◌, ◌++◌, map}
use Rattle.lang.specs.Parts.{flat}
use Rattle.lang.specs.Order.{Each, none, next}
use Rattle.rules.specs.Lines.{Spelling, next_text}
use Rattle.rules.specs.Fields.{Table, Says}
use Rattle.rules.specs.Preferred.{shortened_annotation, preferred}
use Rattle.read_annotation.proofs.Respelling.{first_preferred, next_preferred, Respelling}
use Rattle.measure_line.proofs.EachGives.{EachGives, empty, some}

-- w is the preferred text of a table that the annotations s say
pub record WordedLine (s : Spelling) (w : List ℕ) : Type 0 where
  pub table : Table
  pub says : Each Says s table
  pub is : w ≡ preferred table

-- the annotations behind the first
record WordedMore (s : Spelling) (w : List ℕ) : Type 0 where
  table : Table
  says : Each Says s table
  is : w ≡ flat next_text (map shortened_annotation table)

each_respelled : {s : Spelling} {ys : List (List ℕ)} → Each (Respelling next_preferred) s ys → WordedMore s (flat (λ y. y) ys)
each_respelled none = record { table = []; says = none; is = refl }
each_respelled (next x xs) =
    let m = each_respelled xs in record { table = x.table ∷ m.table; says = next x.says m.says; is = ap₂ ◌++◌ x.is m.is }

-- ---- for callers

pub line_respelled : {s : Spelling} {w : List ℕ} → EachGives (Respelling first_preferred) (Respelling next_preferred) s w → WordedLine s w
line_respelled empty = record { table = []; says = none; is = refl }
line_respelled (some x xs e) =
    let m = each_respelled xs in record { table = x.table ∷ m.table; says = next x.says m.says; is = e ∙ ap₂ ◌++◌ x.is m.is }
