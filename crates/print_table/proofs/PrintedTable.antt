-- A stored table, of whichever edition, is printed in preferred spelling: annotation by annotation, each of which leaves the others.
-- Assumes nothing.
use Prim.Native.Nat.{ℕ, suc, min}
use mathlib.Core.Path.{◌≡◌, refl, sym, ap, ap₂, ◌∙◌}
use mathlib.Core.List.{List, [], ◌∷◌, ◌++◌, map}
use native.Mathlib.Omega.{arith}
use lib.ListN.{length}
use Rattle.lang.specs.Parts.{flat}
use Rattle.lang.specs.Mark.{In, here, later}
use Rattle.rules.specs.Annotations.{TableAnnotation, annotation_text}
use Rattle.rules.specs.Lines.{next_text}
use Rattle.rules.specs.Fields.{Table}
use Rattle.rules.specs.Preferred.{shortened_annotation, preferred}
use Rattle.rules.specs.Answers.{Sound}
use Rattle.rules.specs.Stored.{stored}
use Rattle.rules.specs.Limits.{max_annotations}
use Rattle.rules.specs.Editions.{Edition}
use Rattle.rules.proofs.Bounds.{Bounded, table_few, table_bounded}
use Rattle.rules.proofs.FitAnnotations.{InRange, table_in_range}
use Rattle.counts.specs.declared.Counts.{Counts}
use Rattle.store_sections.specs.Headers.{starts_of}
use Rattle.print_table.specs.Parts.{StoredParts, stored_parts_at}
use Rattle.print_table.specs.Annotations.{annotation_printed, parts_behind}
use Rattle.print_table.specs.Tables.{comma_printed, annotations_printed, printed_in, printed_table}
use Rattle.print_table.proofs.Steps.{comma_next}
use Rattle.print_table.proofs.Parts.{annotation_laid, behind_laid}
use Rattle.print_table.proofs.Sections.{sectioned, others, parts_stored, first_laid, edition_stored, counts_stored}

-- each annotation is within the limits
abbrev Within : Table → Type 0
Within t = (a : TableAnnotation) → In a t → Bounded a × InRange a

module _ (e : Edition) where
  -- the first annotation of a row, and those behind it
  module _ (a : TableAnnotation) (t : Table) (q : StoredParts) (h : Bounded a × InRange a) where
    first_text : annotation_printed (sectioned e (a ∷ t) q) ≡ annotation_text (shortened_annotation a)
    first_text = ap annotation_printed (first_laid e a t q) ∙ annotation_laid e a (sectioned e t q) h.0 h.1

    first_behind : parts_behind e (sectioned e (a ∷ t) q) ≡ sectioned e t q
    first_behind = ap (parts_behind e) (first_laid e a t q) ∙ behind_laid e a (sectioned e t q) h.0 h.1

  -- behind the first annotation of a line
  next_printed : (i : ℕ) (t : Table) (q : StoredParts) → Within t → annotations_printed e (suc i) (length t) (sectioned e t q) ≡ flat next_text (map shortened_annotation t)
  unfolding annotations_printed
  next_printed i [] q h = refl
  next_printed i (a ∷ t) q h =
      ap₂ (λ (v w : List ℕ). v ++ w) (sym (comma_next (suc i) (λ z. omega arith)))
      (ap₂ (λ (v w : List ℕ). v ++ w) (first_text a t q (h a here))
      (ap (annotations_printed e (suc (suc i)) (length t)) (first_behind a t q (h a here)) ∙ next_printed (suc i) t q (λ b j. h b (later j))))

  line_printed : (t : Table) (q : StoredParts) → Within t → annotations_printed e 0 (length t) (sectioned e t q) ≡ preferred t
  unfolding annotations_printed comma_printed
  line_printed [] q h = refl
  line_printed (a ∷ t) q h =
      ap₂ (λ (v w : List ℕ). v ++ w) (first_text a t q (h a here))
      (ap (annotations_printed e 1 (length t)) (first_behind a t q (h a here)) ∙ next_printed 0 t q (λ b j. h b (later j)))

pub table_printed : (e : Edition) (t : Table) → Sound e t → printed_table (stored e t) ≡ preferred t
unfolding printed_table
table_printed e t s =
    let counts = counts_stored e t s in
    let few : min (length t) max_annotations ≡ length t = omega (arith, table_few t s) in
    let many = ap (λ (n : Counts). min n.annotations max_annotations) counts ∙ few in
    let parts = ap (λ (n : Counts). stored_parts_at (stored e t) (starts_of e n)) counts ∙ parts_stored e t s in
    ap₂ (λ (d : Edition) (n : ℕ). printed_in d n (stored e t)) (edition_stored e t) many
    ∙ ap (annotations_printed e 0 (length t)) parts
    ∙ line_printed e t (others e t) (λ a i. (table_bounded t s a i, table_in_range t s a i))
