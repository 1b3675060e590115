-- A text that is the preferred text of what an annotation says. Assumes nothing.
use Prim.Native.Nat.{ℕ}
use mathlib.Core.Path.{◌≡◌}
use mathlib.Core.List.{List}
use Rattle.rules.specs.Annotations.{TableAnnotation, SpelledAnnotation, annotation_text}
use Rattle.rules.specs.Lines.{next_text}
use Rattle.rules.specs.Fields.{Says}
use Rattle.rules.specs.Preferred.{shortened_annotation}

-- the preferred text of an annotation of a table, as the first of its line and behind a comma
abbrev pub first_preferred : TableAnnotation → List ℕ
first_preferred b = annotation_text (shortened_annotation b)

abbrev pub next_preferred : TableAnnotation → List ℕ
next_preferred b = next_text (shortened_annotation b)

-- w is the text of what the annotation a says
pub record Respelling (word : TableAnnotation → List ℕ) (a : SpelledAnnotation) (w : List ℕ) : Type 0 where
  pub table : TableAnnotation
  pub says : Says a table
  pub is : w ≡ word table
