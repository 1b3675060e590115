-- A line without losses, isotopes, adduct items and units, in which no confidence lacks its 0 and no letters say yb, is the preferred one of what it spells.
-- Assumes nothing.
use Prim.Native.Nat.{ℕ, ◌≤◌}
use mathlib.Core.Path.{◌≡◌, refl, sym, ap, ap₂, ◌∙◌, subst}
use mathlib.Core.Bool.{Bool, true, false, not, ◌&&◌, ◌||◌}
use mathlib.Core.List.{List, [], ◌∷◌, ◌++◌, map}
use native.Mathlib.Omega.{arith}
use lib.Dec.{eqb}
use lib.ListN.{length, length-append}
use borrow.Author.Tests.{eqb-true, not-true}
use Rattle.lang.specs.Parts.{opt_map, flat}
use Rattle.lang.specs.Order.{Perm, Each, none, next}
use Rattle.lang.proofs.Tests.{is_t, t_is, not_t}
use Rattle.lang.proofs.Deriv.{and_0, and_1}
use Rattle.rules.specs.Formulas.{Written}
use Rattle.rules.specs.Ions.{ion_map, SpelledIon, TableIon}
use Rattle.rules.specs.Losses.{loss_map}
use Rattle.rules.specs.Isotopes.{Isotopes, no_isotope, plain_isotope, average_isotope, specific_isotopes, isotopes_map}
use Rattle.rules.specs.Adducts.{item_map}
use Rattle.rules.specs.Confidences.{in_full}
use Rattle.rules.specs.Annotations.{TableAnnotation, SpelledAnnotation}
use Rattle.rules.specs.Lines.{Spelling, line_text}
use Rattle.rules.specs.Fields.{filled_annotation, Table, filled, Says, filled_cut}
use Rattle.rules.specs.Preferred.{shortened_annotation, shortened, preferred_spelling, preferred, shortened_cut}
use Rattle.rules.specs.Stored.{ion_fields, lost_units, added_units, isotope_records}
use Rattle.rules.proofs.Confidences.{zero_left_out, in_full_kept}
use Rattle.rules.specs.Editions.{current}
use Rattle.rules.proofs.Totals.{perm_length}
use Rattle.put_bytes.specs.Puts.{max_place}
use Rattle.counts.specs.declared.Counts.{Counts}
use Rattle.counts.specs.Sums.{sum, no_counts, plus}
use Rattle.read_annotation.proofs.SpelledAnnotation.{freely_spelled}
use Rattle.respell_annotation.proofs.Kept.{yb_written, ion_filled}
use Rattle.measure_line.specs.Totals.{totals_of}
use Rattle.measure_line.proofs.Through.{counts_in, spelled_counts, any_free, totals_read}
use Rattle.respell_line.specs.Plain.{is_plain}

-- ---- the parts of an annotation, as a table has them

-- of none in any order, none
none_said : {A B : Type 0} (f : A → B) (g : B → A) (l : List A) (m : List B) → Perm (map f l) m → length (map f l) ≡ 0 → l ≡ map g m
none_said f g [] [] p e = refl
none_said f g [] (y ∷ m) p e = let q = perm_length p in absurd (omega arith)
none_said f g (x ∷ l) m p e = absurd (omega arith)

ion_said : (x : SpelledIon) (y : TableIon) → ion_map filled filled_cut x ≡ y → length (ion_fields (ion_map filled filled_cut x)).units ≡ 0 → yb_written x ≡ false
    → x ≡ ion_map shortened shortened_cut y
ion_said x y q e free = ion_filled x e free ∙ ap (ion_map shortened shortened_cut) q

isotopes_filled : (x : Isotopes Written) → length (isotope_records (isotopes_map filled x)) ≡ 0 → x ≡ isotopes_map shortened (isotopes_map filled x)
isotopes_filled no_isotope e = refl
isotopes_filled (plain_isotope x) e = absurd (omega arith)
isotopes_filled (average_isotope x) e = absurd (omega arith)
isotopes_filled (specific_isotopes xs) e = absurd (omega arith)

-- ---- annotations and lines

-- none of the four
record Plain (n : Counts) : Type 0 where
  losses : n.losses ≡ 0
  isotopes : n.isotopes ≡ 0
  items : n.items ≡ 0
  units : n.units ≡ 0

-- none in all, none in either part
none_of : (x y : ℕ) → sum x y ≡ 0 → (x ≡ 0) × (y ≡ 0)
none_of x y e = (omega arith, omega arith)

plain_parts : (n m : Counts) → Plain (plus n m) → Plain n × Plain m
plain_parts n m p =
    let losses = none_of n.losses m.losses p.losses in
    let isotopes = none_of n.isotopes m.isotopes p.isotopes in
    let items = none_of n.items m.items p.items in
    let units = none_of n.units m.units p.units in (
      record { losses = losses.0; isotopes = isotopes.0; items = items.0; units = units.0 },
      record { losses = losses.1; isotopes = isotopes.1; items = items.1; units = units.1 },
    )

ion_plain : (a : SpelledAnnotation) → (counts_in a).units ≡ 0 → length (ion_fields (ion_map filled filled_cut a.ion)).units ≡ 0
ion_plain a e =
    let b = filled_annotation a in
    let others = flat (λ l. lost_units l.what) b.losses ++ flat (λ x. added_units x.what) b.adduct in
    omega (arith, e, length-append (ion_fields b.ion).units others)

-- none of two
none_free : (x y : Bool) → (x || y) ≡ false → (x ≡ false) × (y ≡ false)
none_free true y e = absurd (not_t {x = true} e tt)
none_free false y e = (refl, e)

first_said : (a : SpelledAnnotation) (b : TableAnnotation) → Says a b → Plain (counts_in a) → freely_spelled a ≡ false → a ≡ shortened_annotation b
first_said a b s p free =
    let e = s.fields in
    let z = none_free (zero_left_out a.confidence) (yb_written a.ion) free in
    let ion = ion_said a.ion b.ion e.ion (ion_plain a p.units) z.1 in
    let losses = none_said (loss_map filled) (loss_map shortened) a.losses b.losses e.losses p.losses in
    let isotopes = isotopes_filled a.isotopes p.isotopes ∙ ap (isotopes_map shortened) e.isotopes in
    let adduct = none_said (item_map filled) (item_map shortened) a.adduct b.adduct e.adduct p.items in
    let confidence = in_full_kept a.confidence z.0 ∙ ap (opt_map in_full) e.confidence in
    λ i. record {
      marked = e.marked i;
      analyte = e.analyte i;
      ion = ion i;
      losses = losses i;
      isotopes = isotopes i;
      adduct = adduct i;
      charge = e.charge i;
      deviation = e.deviation i;
      confidence = confidence i;
    }

-- a plain spelling is the preferred one
plain_one : {s : Spelling} {t : Table} → Each Says s t → Plain (spelled_counts s) → any_free s ≡ false → s ≡ preferred_spelling t
plain_one none p f = refl
plain_one (next {a = a} {b = b} {l = more} x e) p f =
    let q = plain_parts (counts_in a) (spelled_counts more) p in
    let z = none_free (freely_spelled a) (any_free more) f in
    ap₂ ◌∷◌ (first_said a b x q.0 z.0) (plain_one e q.1 z.1)

-- ---- by what was counted

tested_plain : (n : Counts) (free : Bool) → is_plain n free ≡ true → Plain n × (free ≡ false)
unfolding is_plain
tested_plain n free e =
    let losses = eqb n.losses 0 in
    let isotopes = eqb n.isotopes 0 in
    let items = eqb n.items 0 in
    let units = eqb n.units 0 in
    let all = is_t e in
    let h = and_1 (not free) (losses && (isotopes && (items && units))) all in (
      record {
        losses = eqb-true n.losses 0 (t_is losses (and_0 losses _ h));
        isotopes = eqb-true n.isotopes 0 (t_is isotopes (and_0 isotopes _ (and_1 losses _ h)));
        items = eqb-true n.items 0 (t_is items (and_0 items units (and_1 isotopes _ (and_1 losses _ h))));
        units = eqb-true n.units 0 (t_is units (and_1 items units (and_1 isotopes _ (and_1 losses _ h))));
      },
      not-true free (t_is (not free) (and_0 (not free) (losses && (isotopes && (items && units))) all)),
    )

pub plain_preferred : (s : Spelling) {t : Table} → length (line_text s) ≤ max_place → Each Says s t → is_plain (totals_of current (line_text s)).counts (totals_of current (line_text s)).free ≡ true
    → line_text s ≡ preferred t
plain_preferred s h says e =
    let x = totals_read current s h in
    let t = tested_plain (totals_of current (line_text s)).counts (totals_of current (line_text s)).free e in
    let p = subst Plain x.counts t.0 in
    ap line_text (plain_one says (plain_parts no_counts (spelled_counts s) p).1 (sym x.free ∙ t.1))
