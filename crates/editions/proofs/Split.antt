-- A spelling with letters at its first letter: what stands before it begins a line without letters. Assumes nothing.
use Prim.Native.Nat.{ℕ, ◌+◌}
use mathlib.Core.Path.{◌≡◌, refl, sym, ap, ◌∙◌}
use mathlib.Core.Bool.{Bool, true, false}
use mathlib.Core.List.{List, [], ◌∷◌, ◌++◌, map, append_assoc, append-nil}
use native.Mathlib.Omega.{arith}
use lib.Dec.{T, ltb→lt}
use lib.ListN.{length, get_or, length-append}
use Rattle.lang.specs.Parts.{Opt, silent, written, opt_text, Some, items, flat, word_of}
use Rattle.lang.proofs.Deriv.{and_i}
use Rattle.lang.proofs.Tests.{is_t, not_t}
use Rattle.lang.proofs.Machine.{all_b, all→}
use Rattle.rules.specs.Bytes.{bytes}
use Rattle.rules.specs.Numbers.{digits_in, digits, Number, number_text}
use Rattle.rules.specs.Texts.{braced_text}
use Rattle.rules.specs.Ions.{cleavage_names, Cleavage, SpelledIon, series, internal, immonium, precursor, reference, named, composed, smiles, unknown, ion_text}
use Rattle.rules.specs.Losses.{loss_text}
use Rattle.rules.specs.Isotopes.{no_isotope, isotopes_text}
use Rattle.rules.specs.Adducts.{adduct_text}
use Rattle.rules.specs.Confidences.{confidence_text}
use Rattle.rules.specs.Annotations.{SpelledAnnotation, flag_text, analyte_text, charge_text, deviation_text, annotation_text}
use Rattle.rules.specs.Lines.{Spelling, next_text, line_text, unlettered, all_unlettered}
use Rattle.rules.proofs.OneAnswer.{written_not_silent}
use Rattle.editions.specs.Letters.{letters_at, first_letter}
use Rattle.editions.proofs.Bytes.{among}
use Rattle.editions.proofs.Cells.{letters, positions}

-- the line before the letter, which has a place, the letter, and the line behind it; and a spelling without letters whose line is what stands
-- before the letter and `1:1`
pub record Split (s : Spelling) (at place : ℕ) : Type 0 where
  pub front : List ℕ
  pub letter : ℕ
  pub back : List ℕ
  pub text : line_text s ≡ front ++ (letter ∷ back)
  pub counts : at + length front ≡ place
  pub known : T (among letters letter)
  pub bare : Some SpelledAnnotation
  pub unlettered_bare : T (all_unlettered (items bare))
  pub bare_text : line_text (items bare) ≡ front ++ positions

-- ---- the letters of a cleavage

abbrev begun : List ℕ → Bool
begun [] = false
begun (b ∷ w) = among letters b

all_begun : T (all_b (λ i. begun (get_or (map bytes cleavage_names) i [])) 9)
all_begun = tt

-- a word that begins with one of the letters
record Begun (w : List ℕ) : Type 0 where
  letter : ℕ
  more : List ℕ
  known : T (among letters letter)
  is : w ≡ letter ∷ more

begun→ : (w : List ℕ) → T (begun w) → Begun w
begun→ [] t = absurd t
begun→ (b ∷ w) t = record { letter = b; more = w; known = t; is = refl }

cleavage_begun : (c : Cleavage) → Begun (word_of c)
cleavage_begun c = begun→ (word_of c) (all→ (λ i. begun (get_or (map bytes cleavage_names) i [])) 9 all_begun c.which (ltb→lt c.which 9 c.known))

-- an ion with letters is `m`, a letter and some more
record Lettered (x : SpelledIon) : Type 0 where
  letter : ℕ
  more : List ℕ
  known : T (among letters letter)
  text : ion_text x ≡ bytes "m" ++ (letter ∷ more)

ion_lettered : (x : SpelledIon) → (T (unlettered x) → ⊥) → Lettered x
ion_lettered (internal (written c) m n t) h =
    let k = cleavage_begun c in
    let rest = number_text m ++ (bytes ":" ++ (number_text n ++ opt_text braced_text t)) in
    record {
      letter = k.letter;
      more = k.more ++ rest;
      known = k.known;
      text = ap (λ (w : List ℕ). bytes "m" ++ (w ++ rest)) k.is;
    }
ion_lettered (internal silent m n t) h = absurd (h tt)
ion_lettered (series s n t) h = absurd (h tt)
ion_lettered (immonium a m) h = absurd (h tt)
ion_lettered precursor h = absurd (h tt)
ion_lettered (reference n) h = absurd (h tt)
ion_lettered (named t) h = absurd (h tt)
ion_lettered (composed f) h = absurd (h tt)
ion_lettered (smiles t) h = absurd (h tt)
ion_lettered (unknown n) h = absurd (h tt)

-- ---- the first annotation has letters

-- what opens an annotation, and the `m` of its ion
abbrev opening : SpelledAnnotation → List ℕ
opening a = flag_text (bytes "&") a.marked ++ (opt_text analyte_text a.analyte ++ bytes "m")

opened : (f a w : List ℕ) → f ++ (a ++ (bytes "m" ++ w)) ≡ (f ++ (a ++ bytes "m")) ++ w
opened f a w = ap (λ (v : List ℕ). f ++ v) (sym (append_assoc a (bytes "m") w)) ∙ sym (append_assoc f (a ++ bytes "m") w)

opening_length : (a : SpelledAnnotation) → length (opening a) ≡ letters_at a
opening_length a =
    let n = opt_text analyte_text a.analyte in
    omega (arith, length-append (flag_text (bytes "&") a.marked) (n ++ bytes "m"), length-append n (bytes "m"))

-- the same opening, and the shortest internal ion
one : Number
one = record { value = 1; least = tt }

abbrev shortest : SpelledAnnotation → SpelledAnnotation
shortest a =
    record {
      marked = a.marked;
      analyte = a.analyte;
      ion = internal silent one one silent;
      losses = [];
      isotopes = no_isotope;
      adduct = [];
      charge = silent;
      deviation = silent;
      confidence = silent;
    }

shortest_text : (a : SpelledAnnotation) → annotation_text (shortest a) ≡ opening a ++ positions
unfolding one digits digits_in
shortest_text a = opened (flag_text (bytes "&") a.marked) (opt_text analyte_text a.analyte) positions

here : (at place : ℕ) (a : SpelledAnnotation) (more : Spelling) → Lettered a.ion → at + letters_at a ≡ place → Split (a ∷ more) at place
here at place a more x e =
    let f = flag_text (bytes "&") a.marked in
    let n = opt_text analyte_text a.analyte in
    let rest = flat loss_text a.losses ++ (isotopes_text a.isotopes ++ (adduct_text a.adduct
    ++ (opt_text charge_text a.charge ++ (opt_text deviation_text a.deviation ++ opt_text confidence_text a.confidence)))) in
    let w = (x.letter ∷ x.more) ++ rest in
    record {
      front = opening a;
      letter = x.letter;
      back = (x.more ++ rest) ++ flat next_text more;
      text =
          ap (λ (v : List ℕ). (f ++ (n ++ (v ++ rest))) ++ flat next_text more) x.text ∙ ap (λ (v : List ℕ). v ++ flat next_text more) (opened f n w)
          ∙ append_assoc (opening a) w (flat next_text more);
      counts = omega (arith, opening_length a, e);
      known = x.known;
      bare = record { first = shortest a; more = [] };
      unlettered_bare = tt;
      bare_text = append-nil (annotation_text (shortest a)) ∙ shortest_text a;
    }

-- ---- or it has none, and the first stand behind its comma

joined : (at place : ℕ) (s : Spelling) → first_letter at s ≡ written place → flat next_text s ≡ bytes "," ++ line_text s
joined at place [] e = absurd (written_not_silent silent e refl)
joined at place (a ∷ more) e = refl

later : (at place : ℕ) (a : SpelledAnnotation) (more : Spelling) → T (unlettered a.ion) → flat next_text more ≡ bytes "," ++ line_text more
    → Split more (at + length (annotation_text a) + 1) place → Split (a ∷ more) at place
later at place a more u j x =
    let w = annotation_text a in
    record {
      front = w ++ (bytes "," ++ x.front);
      letter = x.letter;
      back = x.back;
      text =
          ap (λ (v : List ℕ). w ++ v) (j ∙ ap (λ (v : List ℕ). bytes "," ++ v) x.text)
          ∙ sym (append_assoc w (bytes "," ++ x.front) (x.letter ∷ x.back));
      counts = omega (arith, length-append w (bytes "," ++ x.front), x.counts);
      known = x.known;
      bare = record { first = a; more = items x.bare };
      unlettered_bare = and_i (unlettered a.ion) (all_unlettered (items x.bare)) u x.unlettered_bare;
      bare_text = ap (λ (v : List ℕ). w ++ (bytes "," ++ v)) x.bare_text ∙ sym (append_assoc w (bytes "," ++ x.front) positions);
    }

abbrev place_or0 : Opt ℕ → ℕ
place_or0 silent = 0
place_or0 (written p) = p

pub split : (at place : ℕ) (s : Spelling) → first_letter at s ≡ written place → Split s at place
split at place [] e = absurd (written_not_silent silent e refl)
split at place (a ∷ more) e = by (λ q. split (at + length (annotation_text a) + 1) place more q) (unlettered a.ion) refl e
  where
    by : (first_letter (at + length (annotation_text a) + 1) more ≡ written place → Split more (at + length (annotation_text a) + 1) place)
        → (x : Bool) → unlettered a.ion ≡ x
        → elim x [ true ↦ first_letter (at + length (annotation_text a) + 1) more | false ↦ written (at + letters_at a) ] ≡ written place
        → Split (a ∷ more) at place
    by ih true u q = later at place a more (is_t u) (joined (at + length (annotation_text a) + 1) place more q) (ih q)
    by ih false u q = here at place a more (ion_lettered a.ion (not_t u)) (ap place_or0 q)
