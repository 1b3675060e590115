-- What is put for a line that is the text of a spelling within the limits is the preferred line of what it says. Assumes nothing.
use Prim.Native.Nat.{ℕ, ◌≤◌}
use mathlib.Core.Path.{◌≡◌, refl, ap, ◌∙◌}
use mathlib.Core.Bool.{Bool, true, false, cond}
use mathlib.Core.List.{List, ◌++◌}
use lib.ListN.{length}
use Rattle.lang.specs.Mark.{Kept}
use Rattle.lang.specs.Order.{Each}
use Rattle.rules.specs.Bytes.{bytes}
use Rattle.rules.specs.Lines.{Spelling, line_text}
use Rattle.rules.specs.Fields.{Table, Says}
use Rattle.rules.specs.Limits.{line_marks}
use Rattle.rules.specs.Preferred.{preferred}
use Rattle.rules.specs.Editions.{current}
use Rattle.rules.proofs.OneTable as OneTable
use Rattle.put_bytes.specs.Puts.{max_place}
use Rattle.shape.proofs.OneSpelling.{one_spelling}
use Rattle.read_annotation.proofs.Respelling.{first_preferred, next_preferred, Respelling}
use Rattle.respell_annotation.specs.Annotations.{annotation_spelled}
use Rattle.respell_annotation.proofs.RespelledAnnotation.{annotation_respelled}
use Rattle.measure_line.specs.Totals.{parts_at, totals_of}
use Rattle.measure_line.proofs.EachGives.{Gives, line_gives}
use Rattle.measure_line.proofs.RespelledLine.{line_respelled}
use Rattle.respell_line.specs.Plain.{is_plain, next_spelled, line_spelled, spelling_of}
use Rattle.respell_line.proofs.Plain.{plain_preferred}

-- a comma before each annotation but the first
next_respelled : Gives next_spelled (Respelling next_preferred)
next_respelled a k end i at e kept h small =
    let x = annotation_respelled a k end i at e kept h small in
    record { table = x.table; says = x.says; is = ap (λ (w : List ℕ). bytes "," ++ w) x.is }

-- annotation by annotation
pub anew_preferred : (s : Spelling) (t : Table) → length (line_text s) ≤ max_place → Each Says s t → Kept (line_marks s)
    → line_spelled (line_text s) (parts_at (line_text s) 0) ≡ preferred t
anew_preferred s t small says kept =
    let g = line_gives annotation_spelled next_spelled (Respelling first_preferred) (Respelling next_preferred) annotation_respelled next_respelled s small kept in
    let x = line_respelled g in
    x.is ∙ ap preferred (OneTable.one_table one_spelling x.says says)

-- either way
pub spelling_preferred : (s : Spelling) (t : Table) → length (line_text s) ≤ max_place → Each Says s t → Kept (line_marks s)
    → spelling_of (line_text s) (totals_of current (line_text s)) (parts_at (line_text s) 0) ≡ preferred t
unfolding spelling_of
spelling_preferred s t small says kept = by (is_plain (totals_of current (line_text s)).counts (totals_of current (line_text s)).free) refl
  where
    by : (b : Bool) → is_plain (totals_of current (line_text s)).counts (totals_of current (line_text s)).free ≡ b → cond b (line_text s) (line_spelled (line_text s) (parts_at (line_text s) 0)) ≡ preferred t
    by true e = plain_preferred s small says e
    by false e = anew_preferred s t small says kept
