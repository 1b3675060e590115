-- What the annotations of a spelled line store: the sections of a table that the line spells. Assumes nothing.
use Prim.Native.Nat.{◌≤◌}
use mathlib.Core.Path.{◌≡◌, refl, sym, ap, subst}
use mathlib.Core.List.{List, [], ◌∷◌, ◌++◌}
use lib.ListN.{length}
use Rattle.std.specs.Prelude.{None}
use Rattle.lang.specs.Parts.{flat}
use Rattle.lang.specs.Mark.{Kept}
use Rattle.lang.specs.Order.{Each, none, next}
use Rattle.rules.specs.Lines.{Spelling, line_text}
use Rattle.rules.specs.Editions.{Edition}
use Rattle.rules.specs.Fields.{Table, Says}
use Rattle.rules.specs.Limits.{line_marks}
use Rattle.put_bytes.specs.Puts.{max_place}
use Rattle.store_sections.specs.Pages.{Event}
use Rattle.store_sections.specs.Fills.{Fills}
use Rattle.store_sections.proofs.Fills.{fills_none, fills_then}
use Rattle.store_annotation.specs.Events.{annotation_events}
use Rattle.store_annotation.proofs.StoredAnnotation.{StoresRead, store_read}
use Rattle.read_line.specs.Stores.{line_events}
use Rattle.measure_line.proofs.EachGives.{Gives, EachGives, empty, some, line_gives}

-- events es, and then those of a table that the annotations s say
pub record FilledBy (edition : Edition) (s : Spelling) (es fs : List Event) : Type 0 where
  pub table : Table
  pub says : Each Says s table
  pub more : List Event
  pub are : fs ≡ es ++ more
  pub fills : Fills edition table more

events_give : (edition : Edition) → Gives (annotation_events edition) (StoresRead edition)
events_give edition a k end i at e kept h small = store_read edition a k 0 end None i at e kept h

each_filled : {edition : Edition} {s : Spelling} {ys : List (List Event)} → Each (StoresRead edition) s ys → FilledBy edition s [] (flat (λ y. y) ys)
each_filled none = record { table = []; says = none; more = []; are = refl; fills = fills_none }
each_filled (next {b = y} x xs) =
    let f = each_filled xs in
    record {
      table = x.table ∷ f.table;
      says = next x.says f.says;
      more = y ++ f.more;
      are = ap (λ (l : List Event). y ++ l) f.are;
      fills = fills_then x.fills f.fills;
    }

given_filled : {edition : Edition} {s : Spelling} {es : List Event} → EachGives (StoresRead edition) (StoresRead edition) s es → FilledBy edition s [] es
given_filled empty = each_filled none
given_filled (some x xs e) = let f = each_filled (next x xs) in subst (FilledBy _ _ []) (sym e) f

-- ---- for callers

pub line_filled : (edition : Edition) (s : Spelling) → length (line_text s) ≤ max_place → Kept (line_marks s) → FilledBy edition s [] (line_events edition (line_text s))
line_filled edition s h kept =
    given_filled (line_gives (annotation_events edition) (annotation_events edition) (StoresRead edition) (StoresRead edition) (events_give edition) (events_give edition) s h kept)
