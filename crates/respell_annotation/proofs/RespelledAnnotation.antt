-- An annotation that is spelled, spelled anew: the preferred text of what it says. Assumes nothing.
use Prim.Native.Nat.{ℕ, ◌≤◌}
use mathlib.Core.Path.{◌≡◌, refl, sym, ap, ap₂, ◌∙◌, subst}
use mathlib.Core.Bool.{Bool, true, false, cond, not, ◌&&◌, ◌||◌}
use mathlib.Core.List.{List, ◌++◌, append_assoc}
use lib.Dec.{T, eqb, leb, leb→le}
use lib.ListN.{length, take, drop}
use borrow.Author.Tests.{eqb-true, not-true}
use Rattle.std.specs.Prelude.{Option, None}
use Rattle.lang.specs.Parts.{opt_text}
use Rattle.lang.specs.Mark.{Kept}
use Rattle.lang.specs.Walk.{Walked}
use Rattle.lang.proofs.Deriv.{and_0, and_1}
use Rattle.lang.proofs.Tests.{is_t, t_is}
use Rattle.rules.specs.Bytes.{bytes}
use Rattle.rules.specs.Texts.{starts_with}
use Rattle.rules.specs.Numbers.{Number}
use Rattle.rules.specs.Losses.{Loss, loss_text, loss_map}
use Rattle.rules.specs.Adducts.{Item}
use Rattle.rules.specs.Annotations.{TableAnnotation, SpelledAnnotation, flag_text, analyte_text, annotation_text}
use Rattle.rules.specs.Preferred.{shortened}
use Rattle.rules.specs.Fields.{Says}
use Rattle.rules.specs.Limits.{annotation_marks}
use Rattle.rules.proofs.Confidences.{zero_left_out}
use Rattle.put_bytes.specs.Puts.{max_place}
use Rattle.faults.specs.declared.Refusal.{Refusal}
use Rattle.counts.specs.declared.Counts.{Counts}
use Rattle.put_formula.proofs.Chains.{flat_map}
use Rattle.read_ion.specs.declared.IonRead.{IonRead}
use Rattle.read_ion.proofs.SpelledYb.{yb_written, yb_read}
use Rattle.sort_changes.specs.Events.{behind_changes}
use Rattle.read_annotation.specs.declared.Parts.{Parts}
use Rattle.read_annotation.specs.Measured.{is_free, behind_ion, parts_of, annotation_size}
use Rattle.read_annotation.proofs.Ions.{ion_told}
use Rattle.read_annotation.proofs.Tails.{confidence_bare}
use Rattle.read_annotation.proofs.SaysWhat.{table_of, says_so}
use Rattle.read_annotation.proofs.Respelling.{first_preferred, Respelling}
use Rattle.read_annotation.proofs.SpelledAnnotation.{EndsAnnotation, behind_prefix, freely_spelled, first, second, isotopes_on, adduct_on, text_is, fault0, fault1, parts_read, parts_read_lem, behind_ion_lem, size_read_lem}
use Rattle.respell_annotation.specs.Kept.{has_one, is_kept}
use Rattle.respell_annotation.specs.Annotations.{behind_spelled_isotopes, spelled_with, parts_spelled, annotation_spelled}
use Rattle.respell_annotation.proofs.Kept.{none_0, none_1, kept_respelled}
use Rattle.respell_annotation.proofs.Rests.{take_is, prefix_is, middle_is, tail_is, ion_is, losses_are, behind_losses_lem, isotopes_are, behind_isotopes_lem, adduct_is}

-- ---- as it stands

-- what is known of an annotation that stays as it is
record Glance (x : IonRead) (n : Counts) (free : Bool) (s : List ℕ) : Type 0 where
  units : x.units ≡ 0
  losses : n.losses ≤ 1
  items : n.items ≤ 1
  full : free ≡ false
  no_one : has_one s ≡ false

glance : (x : IonRead) (n : Counts) (free : Bool) (s : List ℕ) → is_kept x n free s ≡ true → Glance x n free s
unfolding is_kept
glance x n free s e =
    let u = eqb x.units 0 in
    let l = leb n.losses 1 in
    let d = leb n.items 1 in
    let b = not free in
    let o = not (has_one s) in
    let h : T (u && (l && (d && (b && o)))) = is_t e in
    let g = and_1 u (l && (d && (b && o))) h in
    let f = and_1 l (d && (b && o)) g in
    let c = and_1 d (b && o) f in
    record {
      units = eqb-true x.units 0 (t_is u (and_0 u (l && (d && (b && o))) h));
      losses = leb→le n.losses 1 (and_0 l (d && (b && o)) g);
      items = leb→le n.items 1 (and_0 d (b && o) f);
      full = not-true free (t_is b (and_0 b o c));
      no_one = not-true (has_one s) (t_is o (and_1 b o c));
    }

module _ (a : SpelledAnnotation) (k : List ℕ) (nth end : ℕ) (f : Option Refusal) where
  abbrev read : Parts
  read = parts_read a k nth end f

  abbrev free_read : Bool
  free_read = is_free read.tail.confidence.bare (drop read.front.at (first a k))

  free_read_lem : free_read ≡ freely_spelled a
  free_read_lem =
      ap₂ (λ (x y : Bool). x || y) (confidence_bare a.confidence _)
      (ap (starts_with (bytes "myb")) (behind_prefix a.marked a.analyte a.ion (second a k)) ∙ yb_read a.ion (second a k))

  stands : is_kept read.front.ion read.middle.counts free_read (take read.middle.len (behind_ion (first a k) read)) ≡ true
      → Respelling first_preferred a (take (annotation_size (first a k) read) (first a k))
  stands h =
      let g = glance read.front.ion read.middle.counts free_read (take read.middle.len (behind_ion (first a k) read)) h in
      let t = ap (take read.middle.len) (behind_ion_lem a k nth end f) ∙ middle_is a k nth end f in
      let w = ap (take (annotation_size (first a k) read)) (sym (text_is a k)) ∙ take_is (annotation_text a) k (size_read_lem a k nth end f) in
      subst (λ (s : List ℕ). Respelling first_preferred a s) (sym w)
      (kept_respelled a (sym (ion_told a.ion (fault1 a k end (fault0 a k nth end f))).units ∙ g.units) g.losses g.items
      (none_0 (zero_left_out a.confidence) (yb_written a.ion) (sym free_read_lem ∙ g.full)) (none_1 (zero_left_out a.confidence) (yb_written a.ion) (sym free_read_lem ∙ g.full)) (sym (ap has_one t) ∙ g.no_one))

  -- ---- part by part

  module _ (e : EndsAnnotation k) (i at : ℕ) (kept : Kept (annotation_marks i a at)) where
    abbrev lost : List (Loss Number)
    lost = (losses_are a k e i at kept).ls

    abbrev added : List (Item Number)
    added = (adduct_is a k e i at kept).ls

    abbrev table : TableAnnotation
    table = table_of a lost added

    table_says : Says a table
    table_says =
        let l = losses_are a k e i at kept in
        let x = adduct_is a k e i at kept in
        says_so a lost added l.same l.rise x.same x.rise

    parts_are : parts_spelled (first a k) read ≡ spelled_with (first a k) (second a k) (isotopes_on a k) (adduct_on a k) read
    unfolding parts_spelled
    parts_are =
        let q1 = behind_ion_lem a k nth end f in
        let q2 = ap behind_changes q1 ∙ behind_losses_lem a k e i at kept in
        let q3 = ap behind_spelled_isotopes q2 ∙ behind_isotopes_lem a k e i at kept in
        λ j. spelled_with (first a k) (q1 j) (q2 j) (q3 j) read

    anew : parts_spelled (first a k) read ≡ first_preferred table
    anew =
        let prefix = prefix_is a k in
        let ion = ion_is a k nth end f i at kept in
        let losses = (losses_are a k e i at kept).spelled ∙ flat_map loss_text (loss_map shortened) lost in
        let isotopes = ap (λ (w : Walked (List ℕ)). w.known) (isotopes_are a k e i at kept) in
        let adduct = (adduct_is a k e i at kept).spelled in
        let tail = tail_is a k nth end f in
        parts_are ∙ (λ j. prefix j ++ (ion j ++ (losses j ++ (isotopes j ++ (adduct j ++ tail j)))))
        ∙ append_assoc (flag_text (bytes "&") a.marked) (opt_text analyte_text a.analyte) _

    first_respelled : Respelling first_preferred a (annotation_spelled (first a k) read)
    unfolding annotation_spelled
    first_respelled = by (is_kept read.front.ion read.middle.counts free_read (take read.middle.len (behind_ion (first a k) read))) refl
      where
        by : (t : Bool) → is_kept read.front.ion read.middle.counts free_read (take read.middle.len (behind_ion (first a k) read)) ≡ t
            → Respelling first_preferred a (cond t (take (annotation_size (first a k) read) (first a k)) (parts_spelled (first a k) read))
        by true h = stands h
        by false h = record { table = table; says = table_says; is = anew }

-- the first of a line of `end` bytes
pub annotation_respelled : (a : SpelledAnnotation) (k : List ℕ) (end i at : ℕ) → EndsAnnotation k → Kept (annotation_marks i a at)
    → length (annotation_text a ++ k) ≤ end → end ≤ max_place
    → Respelling first_preferred a (annotation_spelled (annotation_text a ++ k) (parts_of 0 end (annotation_text a ++ k) None))
annotation_respelled a k end i at e kept h m =
    let f = None in
    let t = text_is a k in
    let g : length (first a k) ≤ end = subst (λ (s : List ℕ). length s ≤ end) t h in
    subst (λ (s : List ℕ). Respelling first_preferred a (annotation_spelled s (parts_of 0 end s f))) (sym t)
    (subst (λ (p : Parts). Respelling first_preferred a (annotation_spelled (first a k) p)) (parts_read_lem a k 0 end f e g) (first_respelled a k 0 end f e i at kept))
