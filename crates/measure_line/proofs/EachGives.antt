-- What a walk over the annotations of a spelled line gives, by what each of them gives. Assumes nothing.
use Prim.Native.Nat.{ℕ, suc, ◌+◌, ◌-◌, ◌≤◌}
use mathlib.Core.Path.{◌≡◌, refl, sym, ap, ◌∙◌, subst}
use mathlib.Core.List.{List, [], ◌∷◌, ◌++◌, append_assoc, append-nil}
use native.Mathlib.Omega.{arith}
use borrow.Author.Tests.{ne_eqb}
use lib.ListN.{length, drop, length-append, length-drop}
use lib.Seq.{drop-append_seam, drop-drop}
use Rattle.std.specs.Prelude.{None}
use Rattle.lang.specs.Parts.{flat}
use Rattle.lang.specs.Mark.{Kept}
use Rattle.lang.specs.Order.{Each, none, next}
use Rattle.rules.specs.Annotations.{SpelledAnnotation, annotation_text}
use Rattle.rules.specs.Lines.{Spelling, next_text, line_text}
use Rattle.rules.specs.Limits.{annotation_marks, next_marks, row_marks, line_marks}
use Rattle.rules.proofs.Keeps.{kept_left, kept_right}
use Rattle.put_bytes.specs.Puts.{max_place}
use Rattle.read_annotation.specs.declared.Parts.{Parts}
use Rattle.read_annotation.specs.Measured.{parts_of, annotation_size}
use Rattle.read_annotation.proofs.SpelledAnnotation.{EndsAnnotation, annotation_size_lem}
use Rattle.measure_line.specs.Totals.{goes_on, behind_comma, parts_at}
use Rattle.measure_line.specs.Walks.{behind_by, Done, done_by, done_one, done_next, done_from, line_given_by}
use Rattle.measure_line.proofs.Loops.{loop_on, loop_ends}
use Rattle.measure_line.proofs.Steps.{done_falls}
use Rattle.measure_line.proofs.Through.{rest_ends, annotation_some}

-- of an annotation that is spelled within the limits, whatever ends it, `give` gives what One says;
-- it is read in a line of `end` bytes as the first of its line
abbrev pub Gives : {X : Type 0} → (List ℕ → Parts → List X) → (SpelledAnnotation → List X → Type 0) → Type 0
Gives give One =
    (a : SpelledAnnotation) (k : List ℕ) (end i at : ℕ) → EndsAnnotation k → Kept (annotation_marks i a at)
    → length (annotation_text a ++ k) ≤ end → end ≤ max_place
    → One a (give (annotation_text a ++ k) (parts_of 0 end (annotation_text a ++ k) None))

-- what the annotations of a spelling give, one after the other: the first gives by One, the others by OneNext
pub data EachGives {X : Type 0} (One OneNext : SpelledAnnotation → List X → Type 0) : Spelling → List X → Type 0 where
  empty : EachGives One OneNext [] []
  some : {a : SpelledAnnotation} {more : Spelling} {x xs : List X} {ys : List (List X)} → One a x → Each OneNext more ys → xs ≡ x ++ flat (λ y. y) ys
      → EachGives One OneNext (a ∷ more) xs

module _ (line : List ℕ) (small : length line ≤ max_place) where
  -- one annotation, which begins at `from`, and k behind it
  module _ (a : SpelledAnnotation) (k : List ℕ) (from : ℕ) (h : from ≤ length line) (e : drop from line ≡ annotation_text a ++ k)
      (ends : EndsAnnotation k) where
    fits : length (annotation_text a ++ k) ≤ length line
    fits = omega (arith, ap length e, length-drop from line)

    one_behind : behind_by line from (parts_at line from) ≡ from + length (annotation_text a)
    one_behind =
        let n = ap (λ (s : List ℕ). annotation_size s (parts_of 0 (length line) s None)) e ∙ annotation_size_lem a k 0 (length line) None ends fits in
        omega (arith, n, ap length e, length-drop from line, length-append (annotation_text a) k)

    one_gives : {X : Type 0} (give : List ℕ → Parts → List X) (One : SpelledAnnotation → List X → Type 0) → Gives give One
        → (i at : ℕ) → Kept (annotation_marks i a at)
        → One a (give (drop from line) (parts_at line from))
    one_gives give One gives i at kept =
        subst (λ (s : List ℕ). One a (give s (parts_of 0 (length line) s None))) (sym e) (gives a k (length line) i at ends kept fits small)

  module _ {X : Type 0} (give : List ℕ → Parts → List X) (OneNext : SpelledAnnotation → List X → Type 0) (gives : Gives give OneNext) where
    -- xs, and then what the annotations s give
    record More (s : Spelling) (xs zs : List X) : Type 0 where
      ys : List (List X)
      each : Each OneNext s ys
      are : zs ≡ xs ++ flat (λ y. y) ys

    gives_through : (more : Spelling) (n : ℕ) (d : Done X) (i : ℕ) → Kept (row_marks next_text next_marks i more d.at) → length line - d.at ≤ n
        → d.at ≤ length line → drop d.at line ≡ flat next_text more → More more d.given (done_from give line n d).given
    gives_through [] n d i kept l g e =
        let q = loop_ends (λ (d : Done X). goes_on line d.at) (done_next give line) n d (rw e) in
        record { ys = []; each = none; are = ap (λ (d : Done X). d.given) q ∙ sym (append-nil d.given) }
    gives_through (a ∷ more) n d i kept l g e =
        let w = annotation_text a ++ flat next_text more in
        let c : length line - d.at ≡ suc (length w) = sym (length-drop d.at line) ∙ ap length e in
        let c₂ : length w ≡ length (annotation_text a) + length (flat next_text more) = length-append (annotation_text a) (flat next_text more) in
        let b : behind_comma line d.at ≡ d.at + 1 = omega arith in
        let f : drop (d.at + 1) line ≡ w = sym (drop-drop 1 d.at line) ∙ ap (drop 1) e in
        let others = row_marks next_text next_marks (i + 1) more (d.at + length (next_text a)) in
        let k = flat next_text more in
        let x =
        one_gives a k (d.at + 1) (omega arith) f (rest_ends more) give OneNext gives i (d.at + 1) (kept_left (next_marks i a d.at) others kept) in
        let o = one_behind a k (d.at + 1) (omega arith) f (rest_ends more) in
        let u = done_one give line d.given (d.at + 1) in
        let on = loop_on (λ (d : Done X). goes_on line d.at) (done_next give line) (λ (d : Done X). length line - d.at) (done_falls give line) n d l (rw e) in
        let is : done_next give line d ≡ u = ap (done_one give line d.given) b in
        let p : drop u.at line ≡ flat next_text more =
        ap (λ (n : ℕ). drop n line) o ∙ sym (drop-drop (length (annotation_text a)) (d.at + 1) line) ∙ ap (drop (length (annotation_text a))) f
        ∙ drop-append_seam (annotation_text a) (flat next_text more) in
        let q : d.at + length (next_text a) ≡ u.at = omega arith in
        let z = subst (λ (at : ℕ). Kept (row_marks next_text next_marks (i + 1) more at)) q (kept_right (next_marks i a d.at) others kept) in
        let y = gives_through more n u (i + 1) z (omega arith) (omega arith) p in
        let v = give (drop (d.at + 1) line) (parts_at line (d.at + 1)) in
        record {
          ys = v ∷ y.ys;
          each = next x y.each;
          are =
              ap (λ (d : Done X). d.given) (on ∙ ap (done_from give line n) is) ∙ y.are ∙ append_assoc d.given v (flat (λ y. y) y.ys);
        }

    first_gives : (first : List ℕ → Parts → List X) (One : SpelledAnnotation → List X → Type 0) → Gives first One → (a : SpelledAnnotation) (more : Spelling)
        → line ≡ line_text (a ∷ more) → Kept (line_marks (a ∷ more))
        → EachGives One OneNext (a ∷ more) (done_from give line (length line) (done_by first line [] 0 (parts_at line 0))).given
    first_gives first One gives₁ a more e kept =
        let k = flat next_text more in
        let c : length line ≡ length (annotation_text a) + length k = ap length e ∙ length-append (annotation_text a) k in
        let others = row_marks next_text next_marks 1 more (length (annotation_text a)) in
        let b = annotation_some a in
        let x = one_gives a k 0 (omega arith) e (rest_ends more) first One gives₁ 0 0 (kept_left (annotation_marks 0 a 0) others kept) in
        let u = done_by first line [] 0 (parts_at line 0) in
        let o : u.at ≡ length (annotation_text a) = omega (arith, one_behind a k 0 (omega arith) e (rest_ends more)) in
        let p : drop u.at line ≡ k = ap (λ (n : ℕ). drop n line) o ∙ ap (drop (length (annotation_text a))) e ∙ drop-append_seam (annotation_text a) k in
        let z = subst (λ (at : ℕ). Kept (row_marks next_text next_marks 1 more at)) (sym o) (kept_right (annotation_marks 0 a 0) others kept) in
        let y = gives_through more (length line) u 1 z (omega arith) (omega arith) p in
        some x y.each y.are

-- ---- for callers

pub line_gives : {X : Type 0} (first give : List ℕ → Parts → List X) (One OneNext : SpelledAnnotation → List X → Type 0) → Gives first One → Gives give OneNext
    → (s : Spelling) → length (line_text s) ≤ max_place → Kept (line_marks s)
    → EachGives One OneNext s (line_given_by first give (line_text s) (parts_at (line_text s) 0))
unfolding line_given_by
line_gives first give One OneNext g h [] small kept = empty
line_gives first give One OneNext g h (a ∷ more) small kept =
    let line = line_text (a ∷ more) in
    let b = annotation_some a in
    let l = length-append (annotation_text a) (flat next_text more) in
    let n : (length line ≡ 0 → ⊥) = λ e. omega arith in
    rw (ne_eqb (length line) 0 n) (first_gives line small give OneNext h first One g a more refl kept)
