-- What is counted of the annotations of a spelled line. Assumes nothing.
use Prim.Native.Nat.{ℕ, suc, ◌+◌, ◌-◌, ◌≤◌}
use mathlib.Core.Path.{◌≡◌, refl, sym, ap, ap₂, ◌∙◌, subst}
use mathlib.Core.Bool.{Bool, true, false, ◌||◌}
use mathlib.Core.List.{List, [], ◌∷◌, ◌++◌}
use native.Mathlib.Omega.{arith}
use lib.Dec.{leb}
use borrow.Author.Tests.{ne_eqb}
use lib.ListN.{length, drop, length-append, length-drop}
use lib.Seq.{drop-append_seam, drop-drop}
use Rattle.std.specs.Prelude.{Option}
use Rattle.lang.specs.Parts.{flat}
use Rattle.lang.specs.Mark.{Mark, Kept}
use Rattle.rules.specs.Annotations.{SpelledAnnotation, annotation_text}
use Rattle.rules.specs.Lines.{Spelling, next_text, line_text}
use Rattle.rules.specs.Fields.{filled_annotation}
use Rattle.rules.specs.Limits.{annotation_marks, next_marks, row_marks, line_marks}
use Rattle.rules.specs.Editions.{Edition}
use Rattle.rules.specs.House.{one}
use Rattle.rules.proofs.Keeps.{kept_left, kept_right}
use Rattle.rules.proofs.RisesParts.{ion_some}
use Rattle.put_bytes.specs.Puts.{max_place}
use Rattle.counts.specs.declared.Counts.{Counts}
use Rattle.counts.specs.Sums.{no_counts, plus}
use Rattle.counts.proofs.Sums.{plus_assoc, plus_none, plus_capped}
use Rattle.counts.proofs.Annotations.{annotation_counts}
use Rattle.faults.specs.declared.Refusal.{Refusal}
use Rattle.faults.specs.Faults.{after}
use Rattle.faults.proofs.Marks.{after_append}
use Rattle.read_annotation.specs.declared.Measured.{Measured}
use Rattle.read_annotation.specs.Measured.{measure_of}
use Rattle.read_annotation.proofs.SpelledAnnotation.{EndsAnnotation, at_end, at_comma, freely_spelled, Measures, measure_read}
use Rattle.measure_line.specs.declared.Totals.{Totals}
use Rattle.measure_line.specs.Totals.{nothing, noted, summed, goes_on, behind_comma, add_of, add_next, added_with, totals_from, totals_by, totals_of}
use Rattle.measure_line.proofs.Loops.{loop_on, loop_ends}
use Rattle.measure_line.proofs.Steps.{add_falls}
use Rattle.measure_line.proofs.Folds.{behind, share_in, fold_form, fold_breach, fold_excess}

-- ---- how many of each kind an annotation has, and all of a spelling

abbrev pub counts_in : SpelledAnnotation → Counts
counts_in a = annotation_counts (filled_annotation a)

abbrev pub spelled_counts : Spelling → Counts
spelled_counts [] = no_counts
spelled_counts (a ∷ s) = plus (counts_in a) (spelled_counts s)

-- whether an annotation of a spelling leaves out the 0 of its confidence
abbrev pub any_free : Spelling → Bool
any_free [] = false
any_free (a ∷ s) = freely_spelled a || any_free s

-- faults, where the limits ms are those of the annotations s, the first of which begins at a place
pub record Finds (edition : Edition) (ms : List Mark) (s : Spelling) (from : ℕ) (t u : Totals) : Type 0 where
  pub limit : u.limit ≡ after t.limit ms
  pub form : Kept ms → u.form ≡ fold_form edition t.form from s
  pub breach : Kept ms → u.breach ≡ fold_breach edition t.breach from s
  pub excess : Kept ms → u.excess ≡ fold_excess t.excess t.sum from s

-- what is counted of a spelled line
pub record TotalsRead (edition : Edition) (s : Spelling) (u : Totals) : Type 0 where
  pub counts : u.counts ≡ plus no_counts (spelled_counts s)
  pub free : u.free ≡ any_free s
  pub finds : Finds edition (line_marks s) s 0 nothing u

or_none : (b : Bool) → (b || false) ≡ b
or_none true = refl
or_none false = refl

or_assoc : (a b c : Bool) → ((a || b) || c) ≡ (a || (b || c))
or_assoc true b c = refl
or_assoc false b c = refl

-- ---- no annotation is empty

pub annotation_some : (a : SpelledAnnotation) → 1 ≤ length (annotation_text a)
annotation_some a = simp length-append (omega (arith, ion_some a.ion))

-- behind an annotation stands the end of the line, or a comma
pub rest_ends : (more : Spelling) → EndsAnnotation (flat next_text more)
rest_ends [] = at_end
rest_ends (a ∷ more) = at_comma (annotation_text a ++ flat next_text more)

-- ---- one annotation

module _ (edition : Edition) (line : List ℕ) (small : length line ≤ max_place) where
  -- the annotation that begins at `from`, of which m was measured
  module _ (a : SpelledAnnotation) (t : Totals) (from : ℕ) (m : Measured) (g : from + length (annotation_text a) ≤ length line)
      (h : Measures edition t.counts.annotations a from t.limit m) where
    one_counts : (added_with line t from m).counts ≡ plus t.counts (counts_in a)
    one_counts = ap (plus t.counts) h.counts ∙ plus_capped t.counts (counts_in a)

    one_free : (added_with line t from m).free ≡ (t.free || freely_spelled a)
    one_free = ap (λ (b : Bool). t.free || b) h.free

    one_annotation : m.counts.annotations ≡ 1
    one_annotation = ap (λ (n : Counts). n.annotations) h.counts

    place_is : length line - length (drop from line) ≡ from
    place_is = omega (arith, length-drop from line)

    one_sum : Kept (annotation_marks t.counts.annotations a from) → (added_with line t from m).sum ≡ summed t.sum (share_in a)
    one_sum k = ap (summed t.sum) (h.share k)

    one_finds : Finds edition (annotation_marks t.counts.annotations a from) (a ∷ []) from t (added_with line t from m)
    one_finds =
        record {
          limit = h.fault;
          form = λ k. ap₂ (noted t.form 11) place_is h.formed;
          breach = λ k. ap₂ (noted t.breach 6) place_is (h.kept k);
          excess = λ k. ap₂ (noted t.excess 7) place_is (ap (λ (n : ℕ). leb n one) (one_sum k));
        }

    one_at : (added_with line t from m).at ≡ from + length (annotation_text a)
    one_at = omega (arith, h.len)

  record AddedRead (a : SpelledAnnotation) (t : Totals) (from : ℕ) : Type 0 where
    m : Measured
    is : add_of edition line t from ≡ added_with line t from m
    measures : Measures edition t.counts.annotations a from t.limit m
    inside : from + length (annotation_text a) ≤ length line

  added_read : (a : SpelledAnnotation) (k : List ℕ) (t : Totals) (from : ℕ) → from ≤ length line → drop from line ≡ annotation_text a ++ k → EndsAnnotation k
      → AddedRead a t from
  unfolding add_of
  added_read a k t from h e ends =
      let l : length (annotation_text a ++ k) ≡ length line - from = sym (ap length e) ∙ length-drop from line in
      let p : length line - length (annotation_text a ++ k) ≡ from = omega arith in
      let m = measure_of edition t.counts.annotations (length line) (annotation_text a ++ k) t.limit in
      let r = measure_read edition a k t.counts.annotations (length line) t.limit ends (omega arith) in
      record {
        m = m;
        is = ap (λ (z : List ℕ). added_with line t from (measure_of edition t.counts.annotations (length line) z t.limit)) e;
        measures = subst (λ (z : ℕ). Measures edition t.counts.annotations a z t.limit m) p r;
        inside = omega (arith, length-append (annotation_text a) k);
      }

  -- ---- one annotation after the other, each behind its comma

  -- what was counted from t to u, where the annotations `more` stand behind t, each behind its comma
  record Through (more : Spelling) (t u : Totals) : Type 0 where
    counts : u.counts ≡ plus t.counts (spelled_counts more)
    free : u.free ≡ (t.free || any_free more)
    finds : Finds edition (row_marks next_text next_marks t.counts.annotations more t.at) more (t.at + 1) t u

  -- the first of them begins at `from`
  module _ (a : SpelledAnnotation) (more : Spelling) (t : Totals) (from : ℕ) (m : Measured) (room : t.counts.annotations + 1 ≤ max_place)
      (g : from + length (annotation_text a) ≤ length line) (h : Measures edition t.counts.annotations a from t.limit m) where
    abbrev next : Totals
    next = added_with line t from m

    abbrev marks : List Mark
    marks = annotation_marks t.counts.annotations a from

    abbrev others : List Mark
    others = row_marks next_text next_marks (t.counts.annotations + 1) more (from + length (annotation_text a))

    others_are : row_marks next_text next_marks next.counts.annotations more next.at ≡ others
    others_are = ap₂ (λ (i at : ℕ). row_marks next_text next_marks i more at) (omega (arith, one_annotation a t from m g h)) (one_at a t from m g h)

    begins_are : next.at + 1 ≡ behind from a
    begins_are = ap (λ (n : ℕ). n + 1) (one_at a t from m g h)

    finds_more : {u : Totals} → Through more next u → Finds edition (marks ++ others) (a ∷ more) from t u
    finds_more {u} r =
        let o = one_finds a t from m g h in
        let f = subst (λ (ns : List Mark). Finds edition ns more (next.at + 1) next u) others_are r.finds in
        record {
          limit = f.limit ∙ ap (λ (e : Option Refusal). after e others) o.limit ∙ sym (after_append t.limit marks others);
          form = λ k.
              f.form (kept_right marks others k) ∙ ap₂ (λ (e : Option Refusal) (n : ℕ). fold_form edition e n more) (o.form (kept_left marks others k)) begins_are;
          breach = λ k.
              f.breach (kept_right marks others k) ∙ ap₂ (λ (e : Option Refusal) (n : ℕ). fold_breach edition e n more) (o.breach (kept_left marks others k)) begins_are;
          excess = λ k.
              let l = kept_left marks others k in
              f.excess (kept_right marks others k)
              ∙ ap₂ (λ (e : Option Refusal) (n : ℕ). fold_excess e n (next.at + 1) more) (o.excess l) (one_sum a t from m g h l)
              ∙ ap (λ (n : ℕ). fold_excess (noted t.excess 7 from (leb (summed t.sum (share_in a)) one)) (summed t.sum (share_in a)) n more) begins_are;
        }

    counted_more : {u : Totals} → Through more next u → u.counts ≡ plus t.counts (spelled_counts (a ∷ more))
    counted_more r =
        r.counts ∙ ap (λ (n : Counts). plus n (spelled_counts more)) (one_counts a t from m g h)
        ∙ plus_assoc t.counts (counts_in a) (spelled_counts more)

    free_more : {u : Totals} → Through more next u → u.free ≡ (t.free || any_free (a ∷ more))
    free_more r =
        r.free ∙ ap (λ (b : Bool). b || any_free more) (one_free a t from m g h)
        ∙ or_assoc t.free (freely_spelled a) (any_free more)

  -- t is a sum already
  through : (more : Spelling) (n : ℕ) (t : Totals) → t.counts ≡ plus t.counts no_counts → length line - t.at ≤ n → t.at ≤ length line → drop t.at line ≡ flat next_text more
      → t.counts.annotations + length (flat next_text more) ≤ max_place → Through more t (totals_from edition line n t)
  through [] n t s l i e r =
      let q = loop_ends (λ (t : Totals). goes_on line t.at) (add_next edition line) n t (rw e) in
      subst (λ (u : Totals). Through [] t u) (sym q) (record { counts = s; free = sym (or_none t.free); finds = record { limit = refl; form = λ k. refl; breach = λ k. refl; excess = λ k. refl } })
  through (a ∷ more) n t s l i e r =
      let w = annotation_text a ++ flat next_text more in
      let d : length line - t.at ≡ suc (length w) = sym (length-drop t.at line) ∙ ap length e in
      let c : length w ≡ length (annotation_text a) + length (flat next_text more) = length-append (annotation_text a) (flat next_text more) in
      let b : behind_comma line t.at ≡ t.at + 1 = omega arith in
      let f : drop (t.at + 1) line ≡ w = sym (drop-drop 1 t.at line) ∙ ap (drop 1) e in
      let x = added_read a (flat next_text more) t (t.at + 1) (omega arith) f (rest_ends more) in
      let m = x.m in
      let u = added_with line t (t.at + 1) m in
      let o = one_at a t (t.at + 1) m x.inside x.measures in
      let on = loop_on (λ (t : Totals). goes_on line t.at) (add_next edition line) (λ (t : Totals). length line - t.at) (add_falls edition line) n t l (rw e) in
      let is : add_next edition line t ≡ u = ap (add_of edition line t) b ∙ x.is in
      let p : drop u.at line ≡ flat next_text more =
      ap (λ (n : ℕ). drop n line) o ∙ sym (drop-drop (length (annotation_text a)) (t.at + 1) line) ∙ ap (drop (length (annotation_text a))) f
      ∙ drop-append_seam (annotation_text a) (flat next_text more) in
      let b₁ = one_annotation a t (t.at + 1) m x.inside x.measures in
      let y = through more n u (sym (plus_none t.counts m.counts)) (omega arith) (omega arith) p (omega arith) in
      subst (λ (v : Totals). Through (a ∷ more) t v) (sym (on ∙ ap (totals_from edition line n) is))
      (record {
        counts = counted_more a more t (t.at + 1) m (omega arith) x.inside x.measures y;
        free = free_more a more t (t.at + 1) m (omega arith) x.inside x.measures y;
        finds =
            subst (λ (at : ℕ). Finds edition (next_marks t.counts.annotations a t.at ++ row_marks next_text next_marks (t.counts.annotations + 1) more at) (a ∷ more) (t.at + 1) t (totals_from edition line n u))
            (omega arith) (finds_more a more t (t.at + 1) m (omega arith) x.inside x.measures y);
      })

  -- ---- the whole line

  -- an empty line has no annotations; of another, the first begins at 0
  first_through : (a : SpelledAnnotation) (more : Spelling) → line ≡ line_text (a ∷ more)
      → TotalsRead edition (a ∷ more) (totals_from edition line (length line) (add_of edition line nothing 0))
  first_through a more e =
      let c : length line ≡ length (annotation_text a) + length (flat next_text more) = ap length e ∙ length-append (annotation_text a) (flat next_text more) in
      let b = annotation_some a in
      let x = added_read a (flat next_text more) nothing 0 (omega arith) e (rest_ends more) in
      let m = x.m in
      let u = added_with line nothing 0 m in
      let o : u.at ≡ length (annotation_text a) = omega (arith, one_at a nothing 0 m x.inside x.measures) in
      let z : 0 + length (annotation_text a) ≡ length (annotation_text a) = omega arith in
      let p : drop u.at line ≡ flat next_text more =
      ap (λ (n : ℕ). drop n line) o ∙ ap (drop (length (annotation_text a))) e ∙ drop-append_seam (annotation_text a) (flat next_text more) in
      let b₁ = one_annotation a nothing 0 m x.inside x.measures in
      let y = through more (length line) u (sym (plus_none no_counts m.counts)) (omega arith) (omega arith) p (omega arith) in
      subst (TotalsRead edition (a ∷ more)) (sym (ap (totals_from edition line (length line)) x.is))
      (record {
        counts = counted_more a more nothing 0 m (omega arith) x.inside x.measures y;
        free = free_more a more nothing 0 m (omega arith) x.inside x.measures y;
        finds =
            subst (λ (at : ℕ). Finds edition (annotation_marks 0 a 0 ++ row_marks next_text next_marks 1 more at) (a ∷ more) 0 nothing (totals_from edition line (length line) u))
            z (finds_more a more nothing 0 m (omega arith) x.inside x.measures y);
      })

-- ---- for callers

pub totals_read : (edition : Edition) (s : Spelling) → length (line_text s) ≤ max_place → TotalsRead edition s (totals_of edition (line_text s))
unfolding totals_by add_of
totals_read edition [] h =
    record { counts = refl; free = refl; finds = record { limit = refl; form = λ k. refl; breach = λ k. refl; excess = λ k. refl } }
totals_read edition (a ∷ more) h =
    let line = line_text (a ∷ more) in
    let b = annotation_some a in
    let l = length-append (annotation_text a) (flat next_text more) in
    let n : (length line ≡ 0 → ⊥) = λ e. omega arith in
    let x = first_through edition line h a more refl in
    rw (ne_eqb (length line) 0 n) x
