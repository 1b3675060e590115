-- One annotation printed from its parts, and one annotation more of a line. Assumes nothing.
use Prim.Native.Nat.{ℕ, suc, ◌+◌, ◌-◌, ◌*◌, ◌<◌, ◌≤◌, min}
use mathlib.Core.Path.{◌≡◌, refl, sym, ap, ap₂, ◌∙◌}
use mathlib.Core.List.{List, [], ◌++◌, append_assoc}
use native.Mathlib.Omega.{arith}
use native.Mathlib.Numerals.{add-one}
use lib.ListN.{length, drop}
use borrow.Author.Tests.{eq-eqb, ne_eqb}
use Rattle.rules.specs.Bytes.{bytes}
use Rattle.rules.specs.Limits.{max_losses, max_isotopes, max_items}
use Rattle.rules.specs.Layout.{annotation_width, loss_width, isotope_width, item_width, unit_width, loss_count_at, isotope_count_at, item_count_at}
use Rattle.rules.specs.Editions.{Edition}
use Rattle.put_bytes.specs.Puts.{max_place, Put}
use Rattle.put_bytes.proofs.Putting.{put_none, put_then, put_as}
use Rattle.put_bytes.proofs.PutLoop.{PutSoFar, begin, more, ends}
use Rattle.store_sections.specs.declared.Cursors.{Cursors}
use Rattle.print_parts.specs.declared.PrintedTo.{PrintedTo}
use Rattle.print_parts.specs.Changes.{unit_bytes, name_bytes, PrintsChanges}
use Rattle.print_parts.specs.Isotopes.{isotopes_printed}
use Rattle.print_parts.specs.Tails.{tail_printed}
use Rattle.print_ion.specs.Texts.{ion_units, ion_bytes}
use Rattle.print_ion.specs.Fronts.{front_printed}
use Rattle.print_table.specs.declared.Printed.{Printed}
use Rattle.print_table.specs.Parts.{StoredParts, stored_parts_at}
use Rattle.print_table.specs.Annotations.{row_of, losses_in, isotopes_in, items_in, adduct_printed, PrintsAdduct}
use Rattle.print_table.specs.Annotations.{units_behind_ion, text_behind_ion, annotation_printed, parts_behind, units_in, text_in, further, cursors_behind, PrintsAnnotation}
use Rattle.print_table.specs.Tables.{comma_printed, annotations_printed}
use Rattle.print_table.proofs.Cursors.{ahead_drop, ahead_part, ahead_on, three_drops, same_of}

-- ---- adducts

pub adduct_none : (n : ℕ) (x u t : List ℕ) {d : List ℕ} {to : ℕ} → n ≡ 0 → length d ≤ max_place → to ≤ max_place
    → PrintsAdduct n x u t d to d (record { to = to; units = 0; text = 0 })
unfolding adduct_printed unit_bytes name_bytes
adduct_none n x u t {d} {to} e h g =
    let us : unit_bytes n x ≡ 0 = ap (λ (m : ℕ). unit_bytes m x) e in
    let ns : name_bytes n x ≡ 0 = ap (λ (m : ℕ). name_bytes m x) e in
    record { put = rw (eq-eqb n 0 e) (put_none h g); units = omega (arith, us); text = omega (arith, ns) }

pub adduct_some : (n : ℕ) (x u t : List ℕ) {d e f g : List ℕ} {to a b : ℕ} {r : PrintedTo} → (n ≡ 0 → ⊥) → Put d to (bytes "[M") e a
    → PrintsChanges n x u t e a f r → Put f r.to (bytes "]") g b → PrintsAdduct n x u t d to g (record { to = b; units = r.units; text = r.text })
unfolding adduct_printed
adduct_some n x u t z p q r =
    record { put = rw (ne_eqb n 0 z) (put_then p (put_then q.put r)); units = q.units; text = q.text }

-- ---- annotations

module _ (edition : Edition) (table : List ℕ) (c : Cursors) where
  -- the parts of the annotation, one after the other, in the order of the text
  pub annotation_printed_lem : {s fu ft ll lu lt si xx xu xt d d1 d2 d3 d4 e : List ℕ} {to a b end nl ni nx iu ib u t v w size ka kl ki kx ku kt : ℕ} {l x : PrintedTo}
      → s ≡ drop c.annotations table → nl ≡ row_of s loss_count_at max_losses → ni ≡ row_of s isotope_count_at max_isotopes → nx ≡ row_of s item_count_at max_items
      → fu ≡ drop c.units table → ft ≡ drop c.text table → Put d to (front_printed s fu ft) d1 a
      → iu ≡ ion_units s → u ≡ min (c.units + unit_width * iu) (length table) → ib ≡ ion_bytes s → t ≡ min (c.text + ib) (length table)
      → ll ≡ drop c.losses table → lu ≡ drop u table → lt ≡ drop t table → PrintsChanges nl ll lu lt d1 a d2 l
      → v ≡ min (u + l.units) (length table) → w ≡ min (t + l.text) (length table)
      → si ≡ drop c.isotopes table → Put d2 l.to (isotopes_printed ni si) d3 b
      → xx ≡ drop c.items table → xu ≡ drop v table → xt ≡ drop w table → PrintsAdduct nx xx xu xt d3 b d4 x
      → Put d4 x.to (tail_printed s) e end
      → size ≡ annotation_width edition → ka ≡ min (c.annotations + size) (length table) → kl ≡ min (c.losses + loss_width * nl) (length table)
      → ki ≡ min (c.isotopes + isotope_width * ni) (length table) → kx ≡ min (c.items + item_width * nx) (length table)
      → ku ≡ min (v + x.units) (length table) → kt ≡ min (w + x.text) (length table)
      → PrintsAnnotation edition table c d to e
      (record { to = end; cursors = record { annotations = ka; losses = kl; isotopes = ki; items = kx; units = ku; text = kt } })
  unfolding annotation_printed cursors_behind
  annotation_printed_lem {s} {ll = ll} {d1 = d1} {d2 = d2} {d3 = d3} {d4 = d4} {to = to} {a = a} {b = b} {nl = nl} {ni = ni} {nx = nx} {iu = iu} {ib = ib} {u = u} {t = t} {v = v} {w = w} {l = l} {x = x}
      notes el ei ex efu eft front eiu eu eib et ell elu elt losses ev ew esi isotopes exx exu ext adduct tail wide ka kl ki kx ku kt =
      let p = stored_parts_at table c in
      let losses-units = unit_bytes (losses_in p) p.losses in
      let losses_text = name_bytes (losses_in p) p.losses in
      let items-units = unit_bytes (items_in p) p.items in
      let items-text = name_bytes (items_in p) p.items in
      let nl-is : nl ≡ losses_in p = el ∙ ap (λ (z : List ℕ). row_of z loss_count_at max_losses) notes in
      let ni-is : ni ≡ isotopes_in p = ei ∙ ap (λ (z : List ℕ). row_of z isotope_count_at max_isotopes) notes in
      let nx-is : nx ≡ items_in p = ex ∙ ap (λ (z : List ℕ). row_of z item_count_at max_items) notes in
      let u-is : drop u table ≡ units_behind_ion p =
      ahead_drop table c.units (unit_width * iu) eu ∙ ap (λ (n : ℕ). drop (unit_width * n) p.units) (eiu ∙ ap ion_units notes) in
      let t_is : drop t table ≡ text_behind_ion p = ahead_drop table c.text ib et ∙ ap (λ (n : ℕ). drop n p.text) (eib ∙ ap ion_bytes notes) in
      let losses_are = same_of (λ n p q r. PrintsChanges n p q r d1 a d2 l) losses nl-is ell (elu ∙ u-is) (elt ∙ t_is) in
      let v-is = ahead_part table u losses-units (units_behind_ion p) ev u-is losses_are.units in
      let w-is = ahead_part table t losses_text (text_behind_ion p) ew t_is losses_are.text in
      let adduct_is = same_of (λ n p q r. PrintsAdduct n p q r d3 b d4 x) adduct nx-is exx (exu ∙ v-is) (ext ∙ w-is) in
      let u-at = eu ∙ ap (λ (n : ℕ). further table c.units (unit_width * n)) (eiu ∙ ap ion_units notes) in
      let t-at = et ∙ ap (λ (n : ℕ). further table c.text n) (eib ∙ ap ion_bytes notes) in
      let v-at =
      ahead_on table c.units (unit_width * ion_units p.notes) losses-units u-at (losses_are.units ∙ ap (λ (z : List ℕ). min losses-units (length z)) (sym u-is)) ev
      in
      let w_at =
      ahead_on table c.text (ion_bytes p.notes) losses_text t-at (losses_are.text ∙ ap (λ (z : List ℕ). min losses_text (length z)) (sym t_is)) ew
      in
      let notes-on = ka ∙ ap (λ (n : ℕ). further table c.annotations n) wide in
      let losses-on = kl ∙ ap (λ (n : ℕ). further table c.losses (loss_width * n)) nl-is in
      let isotopes-on = ki ∙ ap (λ (n : ℕ). further table c.isotopes (isotope_width * n)) ni-is in
      let items-on = kx ∙ ap (λ (n : ℕ). further table c.items (item_width * n)) nx-is in
      let units-on =
      ahead_on table c.units (unit_width * ion_units p.notes + losses-units) items-units v-at
      (adduct_is.units ∙ ap (λ (z : List ℕ). min items-units (length z)) (sym v-is)) ku
      in
      let text-on =
      ahead_on table c.text (ion_bytes p.notes + losses_text) items-text w_at
      (adduct_is.text ∙ ap (λ (z : List ℕ). min items-text (length z)) (sym w-is)) kt
      in
      record {
        put =
            put_then (put_as front (λ i. front_printed (notes i) (efu i) (eft i)))
            (put_then losses_are.put (put_then (put_as isotopes (ap₂ isotopes_printed ni-is esi)) (put_then adduct_is.put (put_as tail (ap tail_printed notes)))));
        cursors =
            λ i. record { annotations = notes-on i; losses = losses-on i; isotopes = isotopes-on i; items = items-on i; units = units-on i; text = text-on i };
      }

-- what is left from the cursors behind an annotation on is what is left behind it
pub parts_behind_lem : (edition : Edition) (table : List ℕ) (c : Cursors) → stored_parts_at table (cursors_behind edition table c) ≡ parts_behind edition (stored_parts_at table c)
unfolding parts_behind cursors_behind
parts_behind_lem edition table c =
    let p = stored_parts_at table c in
    let losses-units = unit_bytes (losses_in p) p.losses in
    let losses_text = name_bytes (losses_in p) p.losses in
    let items-units = unit_bytes (items_in p) p.items in
    let items-text = name_bytes (items_in p) p.items in
    let notes = ahead_drop table c.annotations (annotation_width edition) refl in
    let losses = ahead_drop table c.losses (loss_width * losses_in p) refl in
    let isotopes = ahead_drop table c.isotopes (isotope_width * isotopes_in p) refl in
    let items = ahead_drop table c.items (item_width * items_in p) refl in
    let units = ahead_drop table c.units (units_in p) refl ∙ three_drops p.units (unit_width * ion_units p.notes) losses-units items-units in
    let text = ahead_drop table c.text (text_in p) refl ∙ three_drops p.text (ion_bytes p.notes) losses_text items-text in
    λ i. record { notes = notes i; losses = losses i; isotopes = isotopes i; items = items i; units = units i; text = text i }

-- ---- lines

pub comma_first : (i : ℕ) → i ≡ 0 → [] ≡ comma_printed i
unfolding comma_printed
comma_first i e = rw (eq-eqb i 0 e)

pub comma_next : (i : ℕ) → (i ≡ 0 → ⊥) → bytes "," ≡ comma_printed i
unfolding comma_printed
comma_next i e = rw (ne_eqb i 0 e)

module _ (edition : Edition) where
  pub line_begins : (n : ℕ) (p : StoredParts) {d : List ℕ} {to : ℕ} → length d ≤ max_place → to ≤ max_place
      → PutSoFar d to (annotations_printed edition 0 n p) d to (annotations_printed edition 0 (n - 0) p)
  line_begins n p h g = let e : n - 0 ≡ n = omega arith in begin h g (ap (λ (m : ℕ). annotations_printed edition 0 m p) e)

  line_more : (i m : ℕ) (p q : StoredParts) → q ≡ parts_behind edition p
      → annotations_printed edition i (suc m) p ≡ (comma_printed i ++ annotation_printed p) ++ annotations_printed edition (i + 1) m q
  unfolding annotations_printed
  line_more i m p q e =
      ap₂ (λ (j : ℕ) (r : StoredParts). comma_printed i ++ (annotation_printed p ++ annotations_printed edition j m r)) (sym (add-one i)) (sym e)
      ∙ sym (append_assoc (comma_printed i) (annotation_printed p) (annotations_printed edition (i + 1) m q))

  pub line_turn : (n : ℕ) (table : List ℕ) {d l e f g : List ℕ} {to at b i : ℕ} {c : Cursors} {r : Printed}
      → PutSoFar d to l e at (annotations_printed edition i (n - i) (stored_parts_at table c)) → i < n → Put e at (comma_printed i) f b
      → PrintsAnnotation edition table c f b g r
      → PutSoFar d to l g r.to (annotations_printed edition (i + 1) (n - (i + 1)) (stored_parts_at table r.cursors))
  line_turn n table {i = i} {c = c} {r = r} k h p q =
      let m = n - (i + 1) in
      let z : n - i ≡ suc m = omega arith in
      let left : stored_parts_at table r.cursors ≡ parts_behind edition (stored_parts_at table c) = ap (stored_parts_at table) q.cursors ∙ parts_behind_lem edition table c in
      more k (put_then p q.put)
      (ap (λ (j : ℕ). annotations_printed edition i j (stored_parts_at table c)) z ∙ line_more i m (stored_parts_at table c) (stored_parts_at table r.cursors) left)

  pub line_ends : (n i : ℕ) (p : StoredParts) {d l e : List ℕ} {to at : ℕ} → PutSoFar d to l e at (annotations_printed edition i (n - i) p) → n ≤ i → Put d to l e at
  unfolding annotations_printed
  line_ends n i p k h = let z : n - i ≡ 0 = omega arith in ends k (ap (λ (j : ℕ). annotations_printed edition i j p) z)
