-- The steps of storing an annotation. Assumes nothing.
use Prim.Native.Nat.{ℕ, ◌+◌, ◌-◌, ◌≤◌}
use mathlib.Core.Path.{◌≡◌, refl, ap, ap₂, ◌∙◌}
use mathlib.Core.Bool.{true, false}
use mathlib.Core.List.{List, [], ◌∷◌, ◌++◌}
use lib.ListN.{length, take, drop}
use Rattle.rules.specs.Bytes.{bytes}
use Rattle.rules.specs.Texts.{starts_with}
use Rattle.rules.specs.Editions.{Edition, ed1, ed2}
use Rattle.rules.specs.Layout.{annotation_width, annotation_section, loss_section, isotope_section, item_section, unit_section, text_section}
use Rattle.put_bytes.specs.Puts.{max_place, Put}
use Rattle.counts.specs.declared.Counts.{Counts}
use Rattle.put_formula.specs.Records.{records_of}
use Rattle.store_sections.specs.declared.Cursors.{Cursors}
use Rattle.store_sections.specs.Pages.{at, moved, Ran}
use Rattle.store_sections.proofs.Events.{ran_none, ran_then, ran_as}
use Rattle.read_ion.specs.declared.IonRead.{IonRead}
use Rattle.read_isotopes.specs.declared.IsotopesStored.{IsotopesStored}
use Rattle.read_isotopes.specs.Records.{filed_isotopes, StoresIsotopes}
use Rattle.sort_changes.specs.declared.Arranged.{Arranged}
use Rattle.sort_changes.specs.Gathered.{gathered}
use Rattle.sort_changes.specs.Events.{no_keys, change_events, StoresChanges, behind_changes}
use Rattle.sort_changes.proofs.Steps.{ran_at}
use Rattle.read_annotation.specs.declared.Front.{Front}
use Rattle.read_annotation.specs.declared.Tail.{Tail}
use Rattle.read_annotation.specs.declared.Parts.{Parts}
use Rattle.store_annotation.specs.declared.Added.{Added}
use Rattle.store_annotation.specs.Records.{front_bytes, tail_bytes, count_bytes, record_in}
use Rattle.read_annotation.specs.Measured.{behind_ion, annotation_size}
use Rattle.store_annotation.specs.Events.{ion_events, adduct_count, adduct_events, StoresAdduct, behind_filed_isotopes, annotation_events, StoresAnnotation}

-- ---- the record

-- all that the second edition has
pub record_long : (a : Front) (b : Tail) (n : Counts) → length (record_in ed2 a b n) ≡ annotation_width ed2
unfolding front_bytes tail_bytes count_bytes
record_long a b n = refl

-- as many of them as an edition has
pub record_cut : (e : Edition) (a : Front) (b : Tail) (n : Counts) → take (annotation_width e) (record_in ed2 a b n) ≡ record_in e a b n
unfolding front_bytes tail_bytes count_bytes
record_cut ed1 a b n = refl
record_cut ed2 a b n = refl

-- ---- the ion

pub ion_events_lem : (s : List ℕ) (x : IonRead) {r t : List ℕ} → r ≡ drop x.start s → t ≡ take x.text (drop 1 r)
    → (unit_section, records_of x.units r) ∷ (text_section, t) ∷ [] ≡ ion_events s x
unfolding ion_events
ion_events_lem s x {r} {t} e f =
    ap₂ (λ (r t : List ℕ). (unit_section, records_of x.units r) ∷ (text_section, t) ∷ []) e (f ∙ ap (λ (r : List ℕ). take x.text (drop 1 r)) e)

-- ---- the adduct

module _ {s d : List ℕ} {c : Cursors} where
  pub adduct_none : length d ≤ max_place → starts_with (bytes "[M") s ≡ false → StoresAdduct s d c d (record { n = 0; cursors = c })
  unfolding adduct_count adduct_events
  adduct_none h e = record { n = rw e; ran = rw e (ran_none h) }

  pub adduct_some : {t e : List ℕ} {x : Arranged} → starts_with (bytes "[M") s ≡ true → t ≡ drop 2 s → StoresChanges t item_section d c e x
      → StoresAdduct s d c e (record { n = x.n; cursors = x.cursors })
  unfolding adduct_count adduct_events
  adduct_some f q p =
      record {
        n = rw f (p.n ∙ ap (λ (t : List ℕ). length (gathered no_keys t).slots) q);
        ran = rw f (ran_as p.ran (ap (change_events item_section) q));
      }

-- ---- the annotation

module _ {edition : Edition} {s d : List ℕ} {p : Parts} {c : Cursors} {l : Arranged} {y : IsotopesStored} {i : Added} {ta t1 t2 t3 u r d1 d2 d3 d4 e : List ℕ} {c1 c3 k : Cursors} {n to next len : ℕ} where
  pub annotation_stored : ta ≡ drop p.front.at s → Ran d c (ion_events ta p.front.ion) d1 c1 → t1 ≡ drop p.front.len s → StoresChanges t1 loss_section d1 c1 d2 l
      → t2 ≡ drop l.len t1 → n ≡ at isotope_section l.cursors → StoresIsotopes t2 d2 n d3 y → c3 ≡ moved isotope_section y.next l.cursors → t3 ≡ drop y.len t2
      → StoresAdduct t3 d3 c3 d4 i → to ≡ at annotation_section i.cursors
      → Put d4 to (record_in edition p.front p.tail (record { annotations = 1; losses = l.n; isotopes = y.n; items = i.n; units = p.front.ion.units; text = p.front.ion.text })) e next → k ≡ moved annotation_section next i.cursors
      → u ≡ drop p.middle.len t1 → r ≡ drop p.tail.len u → len ≡ length s - length r → StoresAnnotation edition s p d c e (record { len = len; cursors = k })
  unfolding annotation_events annotation_size
  annotation_stored eta ion q1 losses e2 en isotopes e3 f3 adduct eo put ek eu er el =
      let z2 : l.len ≡ (gathered no_keys (behind_ion s p)).at = losses.len ∙ (λ j. (gathered no_keys (q1 j)).at) in
      let q2 : t2 ≡ behind_changes (behind_ion s p) = e2 ∙ (λ j. drop (z2 j) (q1 j)) in
      let z3 : y.len ≡ length (behind_changes (behind_ion s p)) - length (filed_isotopes (behind_changes (behind_ion s p))).rest =
      isotopes.len ∙ (λ j. length (q2 j) - length (filed_isotopes (q2 j)).rest) in
      let q3 : t3 ≡ behind_filed_isotopes (behind_changes (behind_ion s p)) = f3 ∙ (λ j. drop (z3 j) (q2 j)) in
      let pl : l.n ≡ length (gathered no_keys (behind_ion s p)).slots = losses.n ∙ (λ j. length (gathered no_keys (q1 j)).slots) in
      let py : y.n ≡ (filed_isotopes (behind_changes (behind_ion s p))).known.n = isotopes.n ∙ (λ j. (filed_isotopes (q2 j)).known.n) in
      let pi : i.n ≡ adduct_count (behind_filed_isotopes (behind_changes (behind_ion s p))) = adduct.n ∙ ap adduct_count q3 in
      record {
        len = el ∙ ap (λ (r : List ℕ). length s - length r) (er ∙ ap (drop p.tail.len) (eu ∙ ap (drop p.middle.len) q1));
        ran =
            ran_as (ran_then ion (ran_then losses.ran (ran_then (ran_at isotope_section en isotopes.put e3) (ran_then adduct.ran (ran_at annotation_section eo put ek)))))
            (λ j. ion_events (eta j) p.front.ion ++ (change_events loss_section (q1 j) ++ ((isotope_section, (filed_isotopes (q2 j)).known.bytes)
            ∷ (adduct_events (q3 j) ++ ((annotation_section, record_in edition p.front p.tail (record { annotations = 1; losses = pl j; isotopes = py j; items = pi j; units = p.front.ion.units; text = p.front.ion.text })) ∷ [])))));
      }
