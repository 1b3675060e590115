-- Annotations and lines are what the grammar says. Assumes nothing.
use Prim.Native.Nat.{ℕ}
use mathlib.Core.Path.{◌≡◌, refl, ap, ap₂}
use mathlib.Core.Bool.{Bool, true, false}
use mathlib.Core.List.{List, [], ◌∷◌, ◌++◌, map}
use lib.Dec.{T}
use mathlib.Core.Logic.{◌⊎◌, inl, inr}
use Rattle.lang.specs.Re.{Re, eps, either}
use Rattle.lang.specs.Parts.{Opt, silent, written, opt_text, flat, word_of}
use Rattle.lang.proofs.Deriv.{and_0, and_1, and_i}
use Rattle.lang.proofs.Means.{Means, opt_re, means_many, means_opt, means_pair, means_alt, means_as, means_word}
use Rattle.rules.specs.Bytes.{bytes}
use Rattle.rules.specs.Numbers.{From}
use Rattle.rules.specs.Decimals.{Decimal, point_text, decimal_text}
use Rattle.rules.specs.Confidences.{ZeroPoint, Confidence, in_full, from_point_lem, confidence_text}
use Rattle.rules.specs.Formulas.{Written}
use Rattle.rules.specs.Ions.{Letters, Ion, SpelledIon, series, internal, immonium, precursor, reference, named, composed, smiles, unknown}
use Rattle.rules.specs.Annotations.{Annotation, SpelledAnnotation, Deviation, flag_text, analyte_text, charge_text, deviation_text, annotation_text}
use Rattle.rules.specs.Lines.{Spelling, next_text, line_text, unlettered, all_unlettered}
use Rattle.shape.proofs.Grammar.{word, analyte_re, charge_re, deviation_re, confidence_re, letters_re, annotation_re, next_re, line_re}
use Rattle.shape.proofs.MeansNumbers.{means_two, means_nat, means_decimal, means_point}
use Rattle.shape.proofs.MeansParts.{lettered, means_ion, means_letters, means_loss, means_isotopes, means_adduct}

-- ---- flags

flag_to : Bool → Opt (Unit {0})
flag_to true = written tt
flag_to false = silent

flag_from : Opt (Unit {0}) → Bool
flag_from silent = false
flag_from (written u) = true

means_flag : (w : List ℕ) → Means Bool (flag_text w) (opt_re (word w))
unfolding flag_to flag_from
means_flag w =
    means_as (means_opt (means_word w)) flag_to flag_from
    (elim [ false ↦ refl | true ↦ refl ]) (elim [ false ↦ refl | true ↦ refl ]) (elim [ silent ↦ refl | written u ↦ refl ])

-- ---- the parts of an annotation that are numbers

means_analyte : Means ℕ analyte_text analyte_re
means_analyte = means_as (means_pair means_nat (means_word (bytes "@"))) (λ n. (n, tt)) (λ p. p.0) (λ n. refl) (λ n. refl) (λ p. refl)

means_charge : Means (From 2) charge_text charge_re
means_charge = means_as (means_pair (means_word (bytes "^")) means_two) (λ n. (tt, n)) (λ p. p.1) (λ n. refl) (λ n. refl) (λ p. refl)

means_deviation : Means Deviation deviation_text deviation_re
means_deviation =
    means_as
    (means_pair (means_word (bytes "/")) (means_pair (means_flag (bytes "-")) (means_pair means_decimal (means_flag (bytes "ppm")))))
    (λ d. (tt, (d.minus, (d.size, d.ppm))))
    (λ p. record { minus = p.1.0; size = p.1.1.0; ppm = p.1.1.1 })
    (λ d. refl) (λ d. refl) (λ p. refl)

abbrev WrittenConfidence : Type 0
WrittenConfidence = Unit {0} × (Decimal ⊎ ZeroPoint)

confidence_to : Confidence → WrittenConfidence
confidence_to (in_full d) = (tt, inl d)
confidence_to (from_point_lem z) = (tt, inr z)

confidence_from : WrittenConfidence → Confidence
confidence_from (u, inl d) = in_full d
confidence_from (u, inr z) = from_point_lem z

from_text : (p : WrittenConfidence) → bytes "*" ++ either decimal_text (λ z. point_text z.decimal.places z.decimal.value) p.1 ≡ confidence_text (confidence_from p)
unfolding confidence_from
from_text (u, inl d) = refl
from_text (u, inr z) = refl

means_confidence : Means Confidence confidence_text confidence_re
unfolding confidence_to confidence_from
means_confidence =
    means_as (means_pair (means_word (bytes "*")) (means_alt means_decimal means_point)) confidence_to confidence_from
    (elim [ in_full d ↦ refl | from_point_lem z ↦ refl ]) (elim [ in_full d ↦ refl | from_point_lem z ↦ refl ]) from_text

-- ---- annotations and lines, whose internal ions have letters of some kind

abbrev pub CutIn : Type 0 → Type 0
CutIn Cut = Annotation Written Cut Confidence

abbrev pub lettered_in : {Cut : Type 0} → (Cut → Letters) → CutIn Cut → SpelledAnnotation
lettered_in up a =
    record {
      marked = a.marked;
      analyte = a.analyte;
      ion = lettered up a.ion;
      losses = a.losses;
      isotopes = a.isotopes;
      adduct = a.adduct;
      charge = a.charge;
      deviation = a.deviation;
      confidence = a.confidence;
    }

module _ {Cut : Type 0} (up : Cut → Letters) {r : Re} (letters : Means Cut (λ c. opt_text word_of (up c)) r) where
  means_annotation : Means (CutIn Cut) (λ a. annotation_text (lettered_in up a)) (annotation_re r)
  means_annotation =
      means_as
      (means_pair (means_flag (bytes "&")) (means_pair (means_opt means_analyte) (means_pair (means_ion up letters) (means_pair (means_many means_loss)
      (means_pair means_isotopes (means_pair means_adduct (means_pair (means_opt means_charge) (means_pair (means_opt means_deviation) (means_opt means_confidence)))))))))
      (λ a. (a.marked, (a.analyte, (a.ion, (a.losses, (a.isotopes, (a.adduct, (a.charge, (a.deviation, a.confidence)))))))))
      (λ p.
      record {
        marked = p.0;
        analyte = p.1.0;
        ion = p.1.1.0;
        losses = p.1.1.1.0;
        isotopes = p.1.1.1.1.0;
        adduct = p.1.1.1.1.1.0;
        charge = p.1.1.1.1.1.1.0;
        deviation = p.1.1.1.1.1.1.1.0;
        confidence = p.1.1.1.1.1.1.1.1;
      })
      (λ a. refl) (λ a. refl) (λ p. refl)

  means_next : Means (CutIn Cut) (λ a. next_text (lettered_in up a)) (next_re r)
  means_next = means_as (means_pair (means_word (bytes ",")) means_annotation) (λ a. (tt, a)) (λ p. p.1) (λ a. refl) (λ a. refl) (λ p. refl)

  abbrev Rest : Type 0
  Rest = CutIn Cut × List (CutIn Cut)

  line_to : List (CutIn Cut) → Opt Rest
  line_to [] = silent
  line_to (a ∷ more) = written (a, more)

  line_from : Opt Rest → List (CutIn Cut)
  line_from silent = []
  line_from (written p) = p.0 ∷ p.1

  more_text : (s : List (CutIn Cut)) → flat (λ a. next_text (lettered_in up a)) s ≡ flat next_text (map (lettered_in up) s)
  more_text [] = refl
  more_text (a ∷ s) = ap (λ (k : List ℕ). next_text (lettered_in up a) ++ k) (more_text s)

  pub means_cuts : Means (List (CutIn Cut)) (λ s. line_text (map (lettered_in up) s)) (line_re r)
  unfolding line_to line_from
  means_cuts =
      means_as (means_opt (means_pair means_annotation (means_many means_next))) line_to line_from
      (elim [ [] ↦ refl | a ∷ more ↦ refl ])
      (elim [ [] ↦ refl | a ∷ more ↦ ap (λ (k : List ℕ). annotation_text (lettered_in up a) ++ k) (more_text more) ])
      (elim [ silent ↦ refl | written p ↦ ap (λ (k : List ℕ). annotation_text (lettered_in up p.0) ++ k) (more_text p.1) ])

-- ---- the second edition

lettered_same : (x : SpelledIon) → lettered (λ c. c) x ≡ x
lettered_same (series s n t) = refl
lettered_same (internal c m n t) = refl
lettered_same (immonium a m) = refl
lettered_same precursor = refl
lettered_same (reference n) = refl
lettered_same (named t) = refl
lettered_same (composed f) = refl
lettered_same (smiles t) = refl
lettered_same (unknown n) = refl

annotation_same : (a : SpelledAnnotation) → lettered_in (λ c. c) a ≡ a
annotation_same a =
    λ i. record {
      marked = a.marked;
      analyte = a.analyte;
      ion = lettered_same a.ion i;
      losses = a.losses;
      isotopes = a.isotopes;
      adduct = a.adduct;
      charge = a.charge;
      deviation = a.deviation;
      confidence = a.confidence;
    }

line_same : (s : Spelling) → map (lettered_in (λ c. c)) s ≡ s
line_same [] = refl
line_same (a ∷ s) = ap₂ ◌∷◌ (annotation_same a) (line_same s)

pub means_line : Means Spelling line_text (line_re letters_re)
means_line =
    means_as (means_cuts (λ c. c) means_letters) (λ s. s) (λ s. s) (λ s. refl) (λ s. ap line_text (line_same s)) (λ s. ap line_text (line_same s))

-- ---- the first edition: no letters

abbrev pub none : Unit {0} → Letters
none u = silent

means_none : Means (Unit {0}) (λ u. opt_text word_of (none u)) eps
means_none = record { enc = λ u. u; enc_text = λ u k. refl; dec = λ u. u; dec_text = λ u k. refl; back = λ u. refl }

abbrev pub Bare : Type 0
Bare = List (CutIn (Unit {0}))

abbrev pub spelled_bare : Bare → Spelling
spelled_bare s = map (lettered_in none) s

pub means_bare : Means Bare (λ s. line_text (spelled_bare s)) (line_re eps)
means_bare = means_cuts none means_none

-- they are the spellings without letters
bare_ion : (x : Ion Written (Unit {0})) → T (unlettered (lettered none x))
bare_ion (series s n t) = tt
bare_ion (internal c m n t) = tt
bare_ion (immonium a m) = tt
bare_ion precursor = tt
bare_ion (reference n) = tt
bare_ion (named t) = tt
bare_ion (composed f) = tt
bare_ion (smiles t) = tt
bare_ion (unknown n) = tt

pub bare_unlettered : (s : Bare) → T (all_unlettered (spelled_bare s))
bare_unlettered [] = tt
bare_unlettered (a ∷ s) = and_i (unlettered (lettered none a.ion)) (all_unlettered (spelled_bare s)) (bare_ion a.ion) (bare_unlettered s)

ion_bare : (x : SpelledIon) → T (unlettered x) → (y : Ion Written (Unit {0})) × (lettered none y ≡ x)
ion_bare (series s n t) w = (series s n t, refl)
ion_bare (internal silent m n t) w = (internal tt m n t, refl)
ion_bare (internal (written c) m n t) w = absurd w
ion_bare (immonium a m) w = (immonium a m, refl)
ion_bare precursor w = (precursor, refl)
ion_bare (reference n) w = (reference n, refl)
ion_bare (named t) w = (named t, refl)
ion_bare (composed f) w = (composed f, refl)
ion_bare (smiles t) w = (smiles t, refl)
ion_bare (unknown n) w = (unknown n, refl)

pub line_bare : (s : Spelling) → T (all_unlettered s) → (x : Bare) × (spelled_bare x ≡ s)
line_bare [] w = ([], refl)
line_bare (a ∷ s) w =
    let y = ion_bare a.ion (and_0 (unlettered a.ion) (all_unlettered s) w) in
    let more = line_bare s (and_1 (unlettered a.ion) (all_unlettered s) w) in
    let b : CutIn (Unit {0}) =
    record {
      marked = a.marked;
      analyte = a.analyte;
      ion = y.0;
      losses = a.losses;
      isotopes = a.isotopes;
      adduct = a.adduct;
      charge = a.charge;
      deviation = a.deviation;
      confidence = a.confidence;
    } in
    let e : lettered_in none b ≡ a =
    λ i. record {
      marked = a.marked;
      analyte = a.analyte;
      ion = y.1 i;
      losses = a.losses;
      isotopes = a.isotopes;
      adduct = a.adduct;
      charge = a.charge;
      deviation = a.deviation;
      confidence = a.confidence;
    } in
    (b ∷ more.0, ap₂ ◌∷◌ e more.1)
