-- What is measured of an annotation that is spelled. Assumes nothing.
use Prim.Native.Nat.{ℕ, ◌-◌, ◌≤◌, min}
use mathlib.Core.Path.{◌≡◌, refl, sym, ap, ap₂, ◌∙◌, subst}
use mathlib.Core.Bool.{Bool, ◌&&◌, ◌||◌}
use mathlib.Core.List.{List, ◌++◌, map}
use native.Mathlib.Omega.{arith}
use lib.Dec.{leb}
use lib.ListN.{length, length-append, length-map}
use Rattle.std.specs.Prelude.{Option}
use Rattle.lang.specs.Parts.{opt_text, flat}
use Rattle.lang.specs.Mark.{Kept, here, later, marks_of}
use Rattle.rules.specs.Bytes.{bytes}
use Rattle.rules.specs.Ions.{ion_text, ion_map, SpelledIon}
use Rattle.rules.specs.Losses.{loss_text, loss_map}
use Rattle.rules.specs.Isotopes.{isotopes_text, isotopes_map}
use Rattle.rules.specs.Adducts.{adduct_text, item_map}
use Rattle.rules.specs.Confidences.{confidence_text}
use Rattle.rules.specs.Annotations.{SpelledAnnotation, flag_text, analyte_text, charge_text, deviation_text, annotation_text}
use Rattle.rules.specs.Fields.{filled_annotation, filled, filled_cut}
use Rattle.rules.specs.Editions.{Edition, ed1, ed2}
use Rattle.rules.specs.House.{share, one, formed, long_enough, annotation_rules}
use Rattle.rules.proofs.Confidences.{zero_left_out}
use Rattle.rules.specs.Limits.{part, opt_part, ion_parts, deviation_part, confidence_part, annotation_parts, annotation_marks}
use Rattle.rules.specs.Stored.{ion_fields, lost_units, lost_name, added_units, isotope_records, residue_count}
use Rattle.rules.proofs.Keeps.{kept_tail, kept_part}
use Rattle.counts.specs.Sums.{sum, no_counts, plus}
use Rattle.counts.proofs.Annotations.{annotation_counts}
use Rattle.numbers.specs.Shares.{largest}
use Rattle.faults.specs.declared.Refusal.{Refusal}
use Rattle.faults.specs.Faults.{after}
use Rattle.read_tail.proofs.SpelledTail.{deviation_read, confidence_read}
use Rattle.read_ion.specs.declared.IonRead.{IonRead}
use Rattle.read_ion.proofs.SpelledIon.{ion_read}
use Rattle.read_ion.proofs.SpelledYb.{yb_written, yb_read}
use Rattle.read_annotation.specs.declared.Measured.{Measured}
use Rattle.read_annotation.specs.House.{if_asked, rules_of, share_of}
use Rattle.read_annotation.specs.Measured.{own_counts, is_free, measured_of, measure_of}
use Rattle.read_annotation.proofs.Groups.{measure_is}
use Rattle.read_annotation.proofs.Chains.{drop_three}
use Rattle.read_annotation.proofs.Ends.{EndsAnnotation}
use Rattle.read_annotation.proofs.Fronts.{behind_prefix}
use Rattle.read_annotation.proofs.Ions.{ion_told, ion_rule_lem}
use Rattle.read_annotation.proofs.Sequences.{sequence_rule}
use Rattle.read_annotation.proofs.Tails.{deviation_fault, confidence_fault_lem, confidence_bare}
use Rattle.read_annotation.proofs.Rules.{deviation_rule_lem, share_told, share_test}
use Rattle.read_annotation.proofs.Wholes.{third, second, first, text_is, fault1, fault2, fault3, marks_are}
use Rattle.read_annotation.proofs.Readings.{fault0, parts_read, parts_read_lem}

-- a free spelling that no count tells of
abbrev pub freely_spelled : SpelledAnnotation → Bool
freely_spelled a = zero_left_out a.confidence || yb_written a.ion

-- annotation number i of a line, at a place: what is measured of it by the rules of an edition
pub record Measures (edition : Edition) (i : ℕ) (a : SpelledAnnotation) (at : ℕ) (f : Option Refusal) (m : Measured) : Type 0 where
  pub fault : m.fault ≡ after f (annotation_marks i a at)
  pub len : m.len ≡ length (annotation_text a)
  pub counts : m.counts ≡ plus no_counts (annotation_counts (filled_annotation a))
  pub free : m.free ≡ freely_spelled a
  pub formed : m.formed ≡ formed edition a.ion
  pub kept : Kept (annotation_marks i a at) → m.kept ≡ annotation_rules edition a
  pub share : Kept (annotation_marks i a at) → m.share ≡ min (share a) largest

form_asked : (e : Edition) (x : SpelledIon) → if_asked e (formed ed2 x) ≡ formed e x
form_asked ed1 x = refl
form_asked ed2 x = refl

length_asked : (e : Edition) (x : SpelledIon) {kept : Bool} → kept ≡ long_enough ed2 x → if_asked e kept ≡ long_enough e x
length_asked ed1 x h = refl
length_asked ed2 x h = h

module _ (edition : Edition) (a : SpelledAnnotation) (k : List ℕ) (i end : ℕ) (f : Option Refusal) where
  abbrev share_read : ℕ
  share_read = share_of (confidence_read a.confidence (fault3 a k end (fault0 a k i end f)))

  abbrev measured_ion : IonRead
  measured_ion = ion_read a.ion (fault1 a k end (fault0 a k i end f))

  abbrev measured : Measured
  measured =
      record {
        counts = plus (own_counts measured_ion) (parts_read a k i end f).middle.counts;
        free = is_free (confidence_read a.confidence (fault3 a k end (fault0 a k i end f))).bare (ion_text a.ion ++ second a k);
        share = share_read;
        formed = formed edition a.ion;
        kept = rules_of edition measured_ion (residue_count a.ion) (length a.adduct) (deviation_read a.deviation (deviation_fault a.charge a.deviation a.confidence k end (fault2 a k end (fault0 a k i end f)))) share_read;
        len = length (annotation_text a);
        fault = (confidence_read a.confidence (fault3 a k end (fault0 a k i end f))).fault;
      }

  -- ---- what is read

  module _ (e : EndsAnnotation k) (h : length (first a k) ≤ end) where
    long : length (annotation_text a) ≡ length (first a k) - length k
    long = omega (arith, length-append (annotation_text a) k, ap length (text_is a k))

    measured_is : measured ≡ measure_of edition i end (first a k) f
    measured_is =
        measure_is edition (first a k) (parts_read a k i end f) refl
        (ap (is_free (confidence_read a.confidence (fault3 a k end (fault0 a k i end f))).bare) (sym (behind_prefix a.marked a.analyte a.ion (second a k))))
        (sym (drop_three (flag_text (bytes "&") a.marked) (opt_text analyte_text a.analyte) (ion_text a.ion) (second a k)))
        (sym (drop_three (flat loss_text a.losses) (isotopes_text a.isotopes) (adduct_text a.adduct) (third a k)))
        refl refl (sym (form_asked edition a.ion)) refl
        (sym (drop_three (opt_text charge_text a.charge) (opt_text deviation_text a.deviation) (opt_text confidence_text a.confidence) k)) long
        ∙ ap (measured_of edition (first a k)) (parts_read_lem a k i end f e h)

    -- ---- how much of everything

    counts_are : measured.counts ≡ plus no_counts (annotation_counts (filled_annotation a))
    counts_are =
        let x = ion_told a.ion (fault1 a k end (fault0 a k i end f)) in
        let us = (ion_fields (ion_map filled filled_cut a.ion)).units in
        let ls = flat (λ l. lost_units l.what) (map (loss_map filled) a.losses) in
        let xs = flat (λ x. added_units x.what) (map (item_map filled) a.adduct) in
        let names = flat (λ l. lost_name l.what) (map (loss_map filled) a.losses) in
        let losses = sym (length-map a.losses (loss_map filled)) in
        let items = sym (length-map a.adduct (item_map filled)) in
        let units : sum measured_ion.units (sum (length ls) (length xs)) ≡ sum 0 (length (us ++ (ls ++ xs))) =
        omega (arith, x.units, length-append us (ls ++ xs), length-append ls xs) in
        let text : sum measured_ion.text (length names) ≡ sum 0 (length ((ion_fields (ion_map filled filled_cut a.ion)).text ++ names)) =
        omega (arith, x.text, length-append (ion_fields (ion_map filled filled_cut a.ion)).text names) in
        λ j. record {
          annotations = 1;
          losses = sum 0 (losses j);
          isotopes = sum 0 (length (isotope_records (isotopes_map filled a.isotopes)));
          items = sum 0 (items j);
          units = units j;
          text = text j;
        }

    -- ---- within the limits

    module _ (kept : Kept (annotation_marks i a (end - length (first a k)))) where
      share_is : measured.share ≡ min (share a) largest
      share_is =
          let p = kept_part (end - length (first a k)) (annotation_parts a) (kept_tail kept) (opt_part confidence_part a.confidence) (later (later (later (later (later (later (later (later here)))))))) in
          share_told a.confidence p.0 (fault3 a k end (fault0 a k i end f)) p.1

      rules_are : measured.kept ≡ annotation_rules edition a
      unfolding rules_of
      rules_are =
          let at = end - length (first a k) in
          let p = kept_part at (annotation_parts a) (kept_tail kept) (part (ion_text a.ion) (λ at. marks_of at (ion_parts a.ion))) (later (later here)) in
          let q = kept_part at (annotation_parts a) (kept_tail kept) (opt_part deviation_part a.deviation) (later (later (later (later (later (later (later here))))))) in
          let g = fault1 a k end (fault0 a k i end f) in
          ap₂ (λ (x y : Bool). x && y)
          (ap₂ (λ (x y : Bool). x && y) (ion_rule_lem a.ion g p.0 a.adduct p.1)
          (ap₂ (λ (x y : Bool). x && y)
          (deviation_rule_lem a.deviation q.0 (deviation_fault a.charge a.deviation a.confidence k end (fault2 a k end (fault0 a k i end f))) q.1)
          (ap (λ (n : ℕ). leb n one) share_is ∙ share_test (share a))))
          (length_asked edition a.ion (sequence_rule a.ion g p.0 p.1))

    measured_read : Measures edition i a (end - length (first a k)) f measured
    measured_read =
        record {
          fault = confidence_fault_lem a.confidence (fault3 a k end (fault0 a k i end f)) ∙ sym (marks_are a k end (fault0 a k i end f) h);
          len = refl;
          counts = counts_are;
          free = ap₂ (λ (x y : Bool). x || y) (confidence_bare a.confidence (fault3 a k end (fault0 a k i end f))) (yb_read a.ion (second a k));
          formed = refl;
          kept = rules_are;
          share = share_is;
        }

pub measure_read : (edition : Edition) (a : SpelledAnnotation) (k : List ℕ) (i end : ℕ) (f : Option Refusal) → EndsAnnotation k → length (annotation_text a ++ k) ≤ end
    → Measures edition i a (end - length (annotation_text a ++ k)) f (measure_of edition i end (annotation_text a ++ k) f)
measure_read edition a k i end f e h =
    let t = text_is a k in
    let g : length (first a k) ≤ end = subst (λ (s : List ℕ). length s ≤ end) t h in
    subst (λ (s : List ℕ). Measures edition i a (end - length s) f (measure_of edition i end s f)) (sym t)
    (subst (Measures edition i a (end - length (first a k)) f) (measured_is edition a k i end f e g) (measured_read edition a k i end f e g))

pub measure_within : (edition : Edition) (i end : ℕ) (s : List ℕ) (f : Option Refusal) → (measure_of edition i end s f).len ≤ length s
unfolding measured_of
measure_within edition i end s f = omega arith
