-- How far an annotation that is spelled goes, by what was read of it. Assumes nothing.
use Prim.Native.Nat.{ℕ, ◌-◌, ◌≤◌}
use mathlib.Core.Path.{◌≡◌, sym, ap, ◌∙◌, subst}
use mathlib.Core.List.{List, ◌++◌}
use native.Mathlib.Omega.{arith}
use lib.ListN.{length, drop, length-append}
use Rattle.std.specs.Prelude.{Option}
use Rattle.lang.specs.Parts.{opt_text, flat}
use Rattle.rules.specs.Bytes.{bytes}
use Rattle.rules.specs.Ions.{ion_text}
use Rattle.rules.specs.Losses.{loss_text}
use Rattle.rules.specs.Isotopes.{isotopes_text}
use Rattle.rules.specs.Adducts.{adduct_text}
use Rattle.rules.specs.Confidences.{confidence_text}
use Rattle.rules.specs.Annotations.{SpelledAnnotation, flag_text, analyte_text, charge_text, deviation_text, annotation_text}
use Rattle.faults.specs.declared.Refusal.{Refusal}
use Rattle.read_annotation.specs.Measured.{behind_ion, parts_of, annotation_size}
use Rattle.read_annotation.proofs.Chains.{drop_three}
use Rattle.read_annotation.proofs.Ends.{EndsAnnotation}
use Rattle.read_annotation.proofs.Wholes.{third, second, first, text_is}
use Rattle.read_annotation.proofs.Readings.{parts_read, parts_read_lem}

module _ (a : SpelledAnnotation) (k : List ℕ) (nth end : ℕ) (f : Option Refusal) where
  -- the text behind the ion
  pub behind_ion_lem : behind_ion (first a k) (parts_read a k nth end f) ≡ second a k
  behind_ion_lem = drop_three (flag_text (bytes "&") a.marked) (opt_text analyte_text a.analyte) (ion_text a.ion) (second a k)

  pub size_read_lem : annotation_size (first a k) (parts_read a k nth end f) ≡ length (annotation_text a)
  unfolding annotation_size
  size_read_lem =
      let p = parts_read a k nth end f in
      let x = opt_text charge_text a.charge in
      let y = opt_text deviation_text a.deviation in
      let z = opt_text confidence_text a.confidence in
      let q : drop p.middle.len (second a k) ≡ third a k =
      drop_three (flat loss_text a.losses) (isotopes_text a.isotopes) (adduct_text a.adduct) (third a k) in
      ap (λ (l : List ℕ). length (first a k) - length (drop p.tail.len l)) (ap (drop p.middle.len) behind_ion_lem ∙ q)
      ∙ ap (λ (l : List ℕ). length (first a k) - length l) (drop_three x y z k)
      ∙ omega (arith, length-append (annotation_text a) k, ap length (text_is a k))

-- whichever of a line it was read as, from whichever fault on
pub annotation_size_lem : (a : SpelledAnnotation) (k : List ℕ) (nth end : ℕ) (f : Option Refusal) → EndsAnnotation k → length (annotation_text a ++ k) ≤ end
    → annotation_size (annotation_text a ++ k) (parts_of nth end (annotation_text a ++ k) f) ≡ length (annotation_text a)
annotation_size_lem a k nth end f e h =
    let t = text_is a k in
    let g : length (first a k) ≤ end = subst (λ (s : List ℕ). length s ≤ end) t h in
    ap (λ (s : List ℕ). annotation_size s (parts_of nth end s f)) t ∙ ap (annotation_size (first a k)) (sym (parts_read_lem a k nth end f e g))
    ∙ size_read_lem a k nth end f
