-- What is printed of prefix and ion of an annotation that is stored: field by field, by kind, and then together. What an edition adds
-- to the record counts as what follows it, so that the laws hold for each edition. Assumes nothing.
use Prim.Native.Nat.{ℕ, ◌+◌, ◌%◌, ◌≤◌}
use mathlib.Core.Path.{◌≡◌, refl, ap, ap₂, ◌∙◌}
use mathlib.Core.Bool.{Bool, true, false}
use mathlib.Core.List.{List, [], ◌∷◌, ◌++◌, map}
use native.Mathlib.Omega.{arith}
use native.Mathlib.Numerals.{add-one}
use lib.Dec.{T, eqb, ltb→lt, leb→le}
use lib.ListN.{length, get_or, take, drop}
use lib.Seq.{take-append_seam}
use borrow.Author.Tests.{ne_eqb, eqb-false}
use Rattle.lang.specs.Parts.{Opt, silent, written, opt_text, items, flat, word_of}
use Rattle.lang.specs.Mark.{In}
use Rattle.rules.specs.Bytes.{bytes}
use Rattle.rules.specs.Numbers.{digits, Number, number_text}
use Rattle.rules.specs.Texts.{Text, Name, Modification, is_text, is_name, is_modification, in_braces, in_brackets, braced_text, bracket_text}
use Rattle.rules.specs.Formulas.{FormulaUnit, plain, labelled}
use Rattle.rules.specs.Ions.{Series, series_names, cleavage_names, Cleavage, series, internal, immonium, precursor, reference, named, composed, smiles, unknown, ion_map, ion_text, TableIon}
use Rattle.rules.specs.Annotations.{TableAnnotation, flag_text, analyte_text}
use Rattle.rules.specs.Preferred.{shortened, shortened_cut}
use Rattle.rules.specs.Stored.{held_cut, stores, flag, present, value_or0, number, bytes_of, ion_fields, unit_record, common_fields}
use Rattle.rules.specs.Limits.{max_units, max_text}
use Rattle.rules.specs.Layout.{marked_at, analyte_present_at, letter_at, analyte_at, position_at, last_at, charge_at, unit_count_at, loss_count_at}
use Rattle.rules.proofs.FitParts.{UnitFits}
use Rattle.rules.proofs.FitAnnotations.{InRange}
use Rattle.rules.proofs.Bounds.{Bounded}
use Rattle.put_formula.specs.Preferred.{printed_units}
use Rattle.put_formula.proofs.Chains.{AllOf}
use Rattle.put_formula.proofs.PutUnits.{UnitUpTo, printed_read}
use Rattle.slices.proofs.StoredNumbers.{word_stored}
use Rattle.slices.specs.Numbers.{u16_at}
use Rattle.print_parts.proofs.Rows.{all_in, unit_rows}
use Rattle.print_parts.proofs.Tails.{byte_kept}
use Rattle.print_ion.specs.Texts.{series_printed, letters_printed, braces_printed, brackets_printed, ion_units, ion_bytes}
use Rattle.print_ion.specs.Ions.{position_printed, internal_printed, immonium_printed, label_printed, composed_printed, kind_printed, ion_printed}
use Rattle.print_ion.specs.Fronts.{flag_printed, analyte_printed, front_printed}

-- ---- what is asked of an annotation: its numbers fit their fields

pub record FrontOk (a : TableAnnotation) : Type 0 where
  pub analyte : value_or0 (λ n. n) a.analyte ≤ 65535
  pub letter : (ion_fields a.ion).letter ≤ 255
  pub position : (ion_fields a.ion).position ≤ 65535
  pub end : (ion_fields a.ion).end ≤ 65535
  pub few : length (ion_fields a.ion).units ≤ max_units
  pub units : AllOf (UnitUpTo 65535) (ion_fields a.ion).units
  pub short : length (ion_fields a.ion).text ≤ max_text

-- the fields that an annotation has in every edition, and what follows them
abbrev pub noted : TableAnnotation → List ℕ → List ℕ
noted a k = stores (common_fields a) ++ k

-- ---- how many units and bytes of text

pub ion_units_stored : (a : TableAnnotation) (ks : List ℕ) → length (ion_fields a.ion).units ≤ max_units
    → ion_units (noted a ks) ≡ length (ion_fields a.ion).units
unfolding ion_units
ion_units_stored a ks h =
    let n = length (ion_fields a.ion).units in
    omega (arith, word_stored n (drop loss_count_at (noted a ks)) (omega arith))

pub ion_bytes_stored : (a : TableAnnotation) (ks : List ℕ) → length (ion_fields a.ion).text ≤ max_text
    → ion_bytes (noted a ks) ≡ length (ion_fields a.ion).text
unfolding ion_bytes
ion_bytes_stored a ks h =
    let n = length (ion_fields a.ion).text in
    omega (arith, word_stored n (drop unit_count_at (noted a ks)) (omega arith))

text_taken : (a : TableAnnotation) (ks kt : List ℕ) → length (ion_fields a.ion).text ≤ max_text
    → take (ion_bytes (noted a ks)) ((ion_fields a.ion).text ++ kt) ≡ (ion_fields a.ion).text
text_taken a ks kt h =
    let w = (ion_fields a.ion).text in
    ap (λ (n : ℕ). take n (w ++ kt)) (ion_bytes_stored a ks h) ∙ take-append_seam w kt

-- ---- numbers of the record

position_stored : (a : TableAnnotation) (ks : List ℕ) → (ion_fields a.ion).position ≤ 65535
    → u16_at (drop position_at (noted a ks)) ≡ (ion_fields a.ion).position
position_stored a ks h = word_stored (ion_fields a.ion).position (drop last_at (noted a ks)) h

end_stored : (a : TableAnnotation) (ks : List ℕ) → (ion_fields a.ion).end ≤ 65535 → u16_at (drop last_at (noted a ks)) ≡ (ion_fields a.ion).end
end_stored a ks h = word_stored (ion_fields a.ion).end (drop charge_at (noted a ks)) h

series_stored : (s : Series) → series_printed ((s.which + 1) % 256) ≡ word_of s
unfolding series_printed
series_stored s =
    let h = ltb→lt s.which 13 s.known in
    ap (λ (n : ℕ). get_or ([] ∷ map bytes series_names) n []) (byte_kept (s.which + 1) (omega arith) ∙ add-one s.which)

letters_stored : (c : Cleavage) → letters_printed (held_cut c % 256) ≡ opt_text word_of (shortened_cut c)
unfolding letters_printed
letters_stored c = by (eqb c.which 4) refl
  where
    by : (t : Bool) → eqb c.which 4 ≡ t
        → letters_printed (elim t [ true ↦ 0 | false ↦ c.which + 1 ] % 256) ≡ opt_text (word_of {words = map bytes cleavage_names}) (elim t [ true ↦ silent | false ↦ written c ])
    by true e = refl
    by false e =
        let h = ltb→lt c.which 9 c.known in
        let n = eqb-false c.which 4 e in
        let q : (c.which + 1) % 256 ≡ c.which + 1 = byte_kept (c.which + 1) (omega arith) in
        rw (q, ne_eqb (c.which + 1) 5 (λ z. n (omega arith)), add-one c.which)

-- ---- texts and names, of which none is empty

braced : (t : Text) → braces_printed t.bytes ≡ braced_text t
braced t = by t.bytes t.good
  where
    by : (w : List ℕ) → T (is_text w) → braces_printed w ≡ in_braces w
    by [] h = absurd h
    by (b ∷ w) h = refl

bracketed : (t : Name) → brackets_printed t.bytes ≡ bracket_text t
bracketed t = by t.bytes t.good
  where
    by : (w : List ℕ) → T (is_name w) → brackets_printed w ≡ in_brackets w
    by [] h = absurd h
    by (b ∷ w) h = refl

opt_braced : (t : Opt Text) → braces_printed (bytes_of t) ≡ opt_text braced_text t
opt_braced silent = refl
opt_braced (written t) = braced t

modified : (m : Opt Modification) → brackets_printed (bytes_of m) ≡ opt_text bracket_text m
modified silent = refl
modified (written m) = by m.bytes m.good
  where
    by : (w : List ℕ) → T (is_modification w) → brackets_printed w ≡ in_brackets w
    by [] h = absurd h
    by (b ∷ w) h = refl

-- ---- ions, with the text that was taken

module _ (s : List ℕ) where
  position_is : (w : List ℕ) {x z : List ℕ} {n : ℕ} → series_printed (get_or s letter_at 0) ≡ x → u16_at (drop position_at s) ≡ n → braces_printed w ≡ z → position_printed s w ≡ x ++ (digits n ++ z)
  unfolding position_printed
  position_is w p q r = ap₂ (λ (a b : List ℕ). a ++ b) p (ap₂ (λ (n : ℕ) (b : List ℕ). digits n ++ b) q r)

  internal_is : (w : List ℕ) {x z : List ℕ} {m n : ℕ} → letters_printed (get_or s letter_at 0) ≡ x → u16_at (drop position_at s) ≡ m → u16_at (drop last_at s) ≡ n → braces_printed w ≡ z
      → internal_printed s w ≡ bytes "m" ++ (x ++ (digits m ++ (bytes ":" ++ (digits n ++ z))))
  unfolding internal_printed
  internal_is w o p q r =
      ap₂ (λ (x b : List ℕ). bytes "m" ++ (x ++ b)) o
      (ap₂ (λ (m : ℕ) (b : List ℕ). digits m ++ (bytes ":" ++ b)) p (ap₂ (λ (n : ℕ) (b : List ℕ). digits n ++ b) q r))

  immonium_is : (w : List ℕ) {z : List ℕ} {n : ℕ} → get_or s letter_at 0 ≡ n → brackets_printed w ≡ z → immonium_printed s w ≡ bytes "I" ++ ((n ∷ []) ++ z)
  unfolding immonium_printed
  immonium_is w p r = ap₂ (λ (n : ℕ) (b : List ℕ). bytes "I" ++ (n ∷ b)) p r

  composed_is : (u : List ℕ) {z : List ℕ} (n : ℕ) → ion_units s ≡ n → printed_units n u ≡ z → composed_printed s u ≡ bytes "f" ++ in_braces z
  unfolding composed_printed
  composed_is u n p r = ap (λ (b : List ℕ). bytes "f{" ++ (b ++ bytes "}")) (ap (λ (m : ℕ). printed_units m u) p ∙ r)

label_is : (n : Opt Number) (s : List ℕ) → u16_at (drop position_at s) ≡ value_or0 number n → label_printed s ≡ bytes "?" ++ opt_text number_text n
unfolding label_printed
label_is silent s e = rw e
label_is (written n) s e =
    let z : (n.value ≡ 0 → ⊥) = λ z. omega (arith, leb→le 1 n.value n.least) in
    rw (e, ne_eqb n.value 0 z)

-- the annotation with another ion
abbrev with_ion : TableAnnotation → TableIon → TableAnnotation
with_ion a x =
    record {
      marked = a.marked;
      analyte = a.analyte;
      ion = x;
      losses = a.losses;
      isotopes = a.isotopes;
      adduct = a.adduct;
      charge = a.charge;
      deviation = a.deviation;
      confidence = a.confidence;
    }

-- by kind
module _ (a : TableAnnotation) (ks : List ℕ) where
  kind_printed_lem : (x : TableIon) (ku : List ℕ) → FrontOk (with_ion a x)
      → kind_printed (get_or (noted (with_ion a x) ks) 0 0) (noted (with_ion a x) ks) (unit_rows (ion_fields x).units ++ ku) (ion_fields x).text ≡ ion_text (ion_map shortened shortened_cut x)
  unfolding kind_printed
  kind_printed_lem (series s n t) ku h =
      let b = with_ion a (series s n t) in
      position_is (noted b ks) (bytes_of t) (series_stored s) (position_stored b ks h.position) (opt_braced t)
  kind_printed_lem (internal c m n t) ku h =
      let b = with_ion a (internal c m n t) in
      internal_is (noted b ks) (bytes_of t) (letters_stored c) (position_stored b ks h.position) (end_stored b ks h.end) (opt_braced t)
  kind_printed_lem (immonium c m) ku h =
      let b = with_ion a (immonium c m) in
      immonium_is (noted b ks) (bytes_of m) (byte_kept c.val h.letter) (modified m)
  kind_printed_lem precursor ku h = refl
  kind_printed_lem (reference n) ku h = ap (λ (w : List ℕ). bytes "r" ++ w) (bracketed n)
  kind_printed_lem (named t) ku h = ap (λ (w : List ℕ). bytes "_" ++ w) (braced t)
  kind_printed_lem (composed f) ku h =
      let b = with_ion a (composed f) in
      composed_is (noted b ks) (unit_rows (items f) ++ ku) (length (items f)) (ion_units_stored b ks h.few) (printed_read (items f) ku h.units)
  kind_printed_lem (smiles t) ku h = ap (λ (w : List ℕ). bytes "s" ++ w) (braced t)
  kind_printed_lem (unknown n) ku h =
      let b = with_ion a (unknown n) in
      label_is n (noted b ks) (position_stored b ks h.position)

ion_printed_lem : (a : TableAnnotation) (ks ku kt : List ℕ) → FrontOk a
    → ion_printed (noted a ks) (unit_rows (ion_fields a.ion).units ++ ku) ((ion_fields a.ion).text ++ kt) ≡ ion_text (ion_map shortened shortened_cut a.ion)
ion_printed_lem a ks ku kt h =
    ap (kind_printed (get_or (noted a ks) 0 0) (noted a ks) (unit_rows (ion_fields a.ion).units ++ ku)) (text_taken a ks kt h.short)
    ∙ kind_printed_lem a ks a.ion ku h

-- ---- before the ion

flag_is : (s : List ℕ) (m : Bool) → get_or s marked_at 0 ≡ flag m → flag_printed s ≡ flag_text (bytes "&") m
unfolding flag_printed
flag_is s true e = rw e
flag_is s false e = rw e

flag_kept : (m : Bool) → flag m % 256 ≡ flag m
flag_kept true = refl
flag_kept false = refl

analyte_is : (s : List ℕ) (n : Opt ℕ) → get_or s analyte_present_at 0 ≡ present n % 256 → u16_at (drop analyte_at s) ≡ value_or0 (λ n. n) n → analyte_printed s ≡ opt_text analyte_text n
unfolding analyte_printed
analyte_is s silent e f = rw e
analyte_is s (written n) e f = rw (e, f)

analyte_stored : (a : TableAnnotation) (ks : List ℕ) → value_or0 (λ n. n) a.analyte ≤ 65535
    → u16_at (drop analyte_at (noted a ks)) ≡ value_or0 (λ n. n) a.analyte
analyte_stored a ks h = word_stored (value_or0 (λ n. n) a.analyte) (drop position_at (noted a ks)) h

-- ---- prefix and ion

pub front_printed_lem : (a : TableAnnotation) (ks ku kt : List ℕ) → FrontOk a
    → front_printed (stores (common_fields a) ++ ks) (flat (λ u. stores (unit_record u)) (ion_fields a.ion).units ++ ku) ((ion_fields a.ion).text ++ kt)
    ≡ flag_text (bytes "&") a.marked ++ (opt_text analyte_text a.analyte ++ ion_text (ion_map shortened shortened_cut a.ion))
front_printed_lem a ks ku kt h =
    ap₂ (λ (x y : List ℕ). x ++ y) (flag_is (noted a ks) a.marked (flag_kept a.marked))
    (ap₂ (λ (x y : List ℕ). x ++ y) (analyte_is (noted a ks) a.analyte refl (analyte_stored a ks h.analyte)) (ion_printed_lem a ks ku kt h))

-- ---- within the limits

unit_up_to : (u : FormulaUnit Number) → UnitFits u → UnitUpTo 65535 u
unit_up_to (plain s c) h = omega (arith, h.2.2.1)
unit_up_to (labelled a s c) h = (omega (arith, h.1), omega (arith, h.2.2.1))

units_up_to : (us : List (FormulaUnit Number)) → ((u : FormulaUnit Number) → In u us → UnitFits u) → AllOf (UnitUpTo 65535) us
units_up_to us h = all_in us (λ u i. unit_up_to u (h u i))

pub front_ok : (a : TableAnnotation) → InRange a → Bounded a → FrontOk a
front_ok a r b =
    record {
      analyte = r.analyte;
      letter = r.ion.small.letter;
      position = r.ion.small.position;
      end = r.ion.small.end;
      few = b.ion.few;
      units = units_up_to (ion_fields a.ion).units r.ion.units;
      short = b.ion.short;
    }
