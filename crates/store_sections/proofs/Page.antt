-- The page: six sections one behind the other, whatever the order of the events. Assumes nothing.
use Prim.Native.Nat.{ℕ, zero, suc, ◌+◌, ◌≤◌, ◌<◌, min}
use mathlib.Core.Path.{◌≡◌, refl, sym, ap, ◌∙◌, subst}
use mathlib.Core.List.{List, [], ◌∷◌}
use native.Mathlib.Omega.{arith}
use native.Mathlib.Nat.{add-zero}
use borrow.Author.Tests.{ne_eqb}
use lib.ListN.{length}
use lib.Seq.{sets, length-sets}
use Rattle.rules.specs.Layout.{annotation_section, loss_section, isotope_section, item_section, unit_section, text_section}
use Rattle.put_bytes.specs.Puts.{max_place, Put}
use Rattle.store_sections.specs.declared.Cursors.{Cursors}
use Rattle.store_sections.specs.Pages.{places, at, Event, bytes_of, next, ends, run, Ran, parts, joined, stops, Laid}
use Rattle.store_sections.proofs.Events.{places_moved}
use Rattle.store_sections.proofs.Sheets.{inked, Apart, given, shifted, apart_shift, put_page, reached, shift_reached, begins_apart, begins_inked, begins_reached}

-- ---- one event

parts_more : (j : ℕ) (m : List ℕ) (es : List Event) → parts ((j, m) ∷ es) ≡ given j m (parts es)
parts_more zero m es = refl
parts_more (suc zero) m es = refl
parts_more (suc (suc zero)) m es = refl
parts_more (suc (suc (suc zero))) m es = refl
parts_more (suc (suc (suc (suc zero)))) m es = refl
parts_more (suc (suc (suc (suc (suc zero))))) m es = refl
parts_more (suc (suc (suc (suc (suc (suc j)))))) m es =
    let k = suc (suc (suc (suc (suc (suc j))))) in
    rw (
      ne_eqb annotation_section k (omega arith),
      ne_eqb loss_section k (omega arith),
      ne_eqb isotope_section k (omega arith),
      ne_eqb item_section k (omega arith),
      ne_eqb unit_section k (omega arith),
      ne_eqb text_section k (omega arith),
    )

module _ (b : ℕ) (x : Event) (es : List Event) (c : Cursors) where
  places_next : places (next c x) ≡ shifted x.0 x.1 (places c)
  places_next = places_moved x.0 (min (at x.0 c + length x.1) max_place) c

  apart_given : Apart b (places c) (parts (x ∷ es)) → Apart b (places c) (given x.0 x.1 (parts es))
  apart_given h = subst (Apart b (places c)) (parts_more x.0 x.1 es) h

  apart_next : Apart b (places c) (parts (x ∷ es)) → Apart b (places (next c x)) (parts es)
  apart_next h =
      subst (λ (ps : List ℕ). Apart b ps (parts es)) (sym places_next) (apart_shift x.0 b x.1 (places c) (parts es) (apart_given h))

-- ---- all events

run_page : (b : ℕ) (es : List Event) (d : List ℕ) (c : Cursors) → length d ≤ max_place → Apart b (places c) (parts es)
    → run d c es ≡ inked d (places c) (parts es)
unfolding run
run_page b [] d c s h = refl
run_page b (x ∷ es) d c s h =
    let f = sets d (at x.0 c) x.1 in
    let z : length f ≤ max_place = omega (arith, length-sets d (at x.0 c) x.1) in
    run_page b es f (next c x) z (apart_next b x es c h) ∙ ap (λ (ps : List ℕ). inked f ps (parts es)) (places_next b x es c)
    ∙ put_page x.0 b x.1 (places c) (parts es) d s (apart_given b x es c h) ∙ ap (inked d (places c)) (sym (parts_more x.0 x.1 es))

ends_page : (b : ℕ) (es : List Event) (c : Cursors) → Apart b (places c) (parts es) → places (ends c es) ≡ reached (places c) (parts es)
unfolding ends
ends_page b [] c h = simp add-zero
ends_page b (x ∷ es) c h =
    ends_page b es (next c x) (apart_next b x es c h) ∙ ap (λ (ps : List ℕ). reached ps (parts es)) (places_next b x es c)
    ∙ shift_reached x.0 b x.1 (places c) (parts es) (apart_given b x es c h) ∙ ap (reached (places c)) (sym (parts_more x.0 x.1 es))

-- ---- the laws

module _ {base : ℕ} {d e : List ℕ} {c c' : Cursors} {es : List Event} (a : Ran d c es e c') (h : Laid base c (parts es)) where
  apart : Apart base (places c) (parts es)
  apart = subst (λ (ps : List ℕ). Apart base ps (parts es)) (sym h.starts) (begins_apart base (parts es) h.fits)

  -- the sections stand one behind the other
  pub ran_page : Put d base (joined (parts es)) e (base + length (joined (parts es)))
  ran_page =
      record {
        small = a.small;
        next = omega (arith, h.fits);
        made =
            a.made ∙ run_page base es d c a.small apart ∙ ap (λ (ps : List ℕ). inked d ps (parts es)) h.starts
            ∙ begins_inked base (parts es) d a.small h.fits;
      }

  -- and each cursor where its section ends
  pub ran_ends : places c' ≡ stops base (parts es)
  ran_ends =
      ap places a.place ∙ ends_page base es c apart ∙ ap (λ (ps : List ℕ). reached ps (parts es)) h.starts ∙ begins_reached base (parts es)

-- ---- the same, said of each cursor

pub laid : {base : ℕ} {c : Cursors} (es : List Event) → at annotation_section c ≡ base → ((j : ℕ) → j < text_section → at (suc j) c ≡ at j c + length (bytes_of j es))
    → base + length (joined (parts es)) ≤ max_place → Laid base c (parts es)
laid {base} {c} es z n h =
    let a = n annotation_section (omega arith) ∙ ap (λ (p : ℕ). p + length (bytes_of annotation_section es)) z in
    let b = n loss_section (omega arith) ∙ ap (λ (p : ℕ). p + length (bytes_of loss_section es)) a in
    let d = n isotope_section (omega arith) ∙ ap (λ (p : ℕ). p + length (bytes_of isotope_section es)) b in
    let e = n item_section (omega arith) ∙ ap (λ (p : ℕ). p + length (bytes_of item_section es)) d in
    let f = n unit_section (omega arith) ∙ ap (λ (p : ℕ). p + length (bytes_of unit_section es)) e in
    record { starts = λ i. z i ∷ a i ∷ b i ∷ d i ∷ e i ∷ f i ∷ []; fits = h }
