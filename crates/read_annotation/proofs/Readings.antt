-- What is read of an annotation that is spelled. Assumes nothing.
use Prim.Native.Nat.{ℕ, ◌-◌, ◌≤◌}
use mathlib.Core.Path.{◌≡◌, refl, sym, ap, ◌∙◌}
use mathlib.Core.List.{List, ◌++◌}
use lib.ListN.{length}
use Rattle.std.specs.Prelude.{Option}
use Rattle.lang.specs.Parts.{opt_text, flat}
use Rattle.rules.specs.Bytes.{bytes}
use Rattle.rules.specs.Ions.{ion_text}
use Rattle.rules.specs.Losses.{loss_text}
use Rattle.rules.specs.Isotopes.{isotopes_text}
use Rattle.rules.specs.Adducts.{adduct_text}
use Rattle.rules.specs.Annotations.{SpelledAnnotation, flag_text, analyte_text}
use Rattle.rules.specs.Limits.{max_annotations, many_mark}
use Rattle.faults.specs.declared.Refusal.{Refusal}
use Rattle.faults.specs.Faults.{join}
use Rattle.read_ion.proofs.SpelledIon.{ion_read}
use Rattle.read_annotation.specs.declared.Parts.{Parts}
use Rattle.read_annotation.specs.Groups.{middle_of}
use Rattle.read_annotation.specs.Measured.{parts_of}
use Rattle.read_annotation.proofs.Groups.{parts_are}
use Rattle.read_annotation.proofs.Chains.{inside, drop_three}
use Rattle.read_annotation.proofs.Ends.{EndsAnnotation}
use Rattle.read_annotation.proofs.Follows.{ends_middle, ends_ion}
use Rattle.read_annotation.proofs.Ions.{ion_told}
use Rattle.read_annotation.proofs.Fronts.{front_read, front_read_lem}
use Rattle.read_annotation.proofs.Middles.{middle_read, middle_read_lem}
use Rattle.read_annotation.proofs.Tails.{tail_read, tail_read_lem}
use Rattle.read_annotation.proofs.Wholes.{third, second, first, fault1, fault2}

module _ (a : SpelledAnnotation) (k : List ℕ) (i end : ℕ) (f : Option Refusal) where
  -- the first broken limit before the annotation's parts
  abbrev pub fault0 : Option Refusal
  fault0 = join f (many_mark max_annotations i (end - length (first a k)))

  abbrev pub parts_read : Parts
  parts_read =
      record {
        front = front_read a.marked a.analyte a.ion (second a k) end fault0 (ion_read a.ion (fault1 a k end fault0));
        middle = middle_read a.losses a.isotopes a.adduct (third a k) end (fault1 a k end fault0);
        tail = tail_read a.charge a.deviation a.confidence k end (fault2 a k end fault0);
      }

  pub parts_read_lem : EndsAnnotation k → length (first a k) ≤ end → parts_read ≡ parts_of i end (first a k) f
  parts_read_lem e h =
      let m = flag_text (bytes "&") a.marked in
      let n = opt_text analyte_text a.analyte in
      let x = ion_text a.ion in
      let l = flat loss_text a.losses in
      let y = isotopes_text a.isotopes in
      let d = adduct_text a.adduct in
      let c = a.charge in
      let v = a.deviation in
      let w = a.confidence in
      let h3 = inside x (second a k) (inside n (x ++ second a k) (inside m (n ++ (x ++ second a k)) h)) in
      let h6 = inside d (third a k) (inside y (d ++ third a k) (inside l (y ++ (d ++ third a k)) h3)) in
      parts_are end (first a k) f i refl refl
      (sym (front_read_lem a.marked a.analyte a.ion (second a k) end fault0 (ends_ion c v w e a.losses a.isotopes a.adduct) h))
      (sym (drop_three m n x (second a k)))
      (sym (middle_read_lem a.losses a.isotopes a.adduct (third a k) end (fault1 a k end fault0) (ends_middle c v w e) h3)
      ∙ ap (middle_of end (second a k)) (sym (ion_told a.ion (fault1 a k end fault0)).fault))
      (sym (drop_three l y d (third a k)))
      (sym (tail_read_lem c v w k end (fault2 a k end fault0) e h6))
