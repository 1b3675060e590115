-- A table is stored: its header, and then its sections, whatever the order of the events. Assumes nothing.
use Prim.Native.Nat.{ℕ, ◌+◌, ◌-◌, ◌*◌, ◌≤◌}
use mathlib.Core.Path.{◌≡◌, refl, sym, ap, ap₂, ◌∙◌, subst}
use mathlib.Core.List.{List, ◌++◌}
use native.Mathlib.Omega.{arith}
use native.Mathlib.Nat.{mul_comm}
use lib.ListN.{length, replicate, length-append, length-replicate}
use lib.Seq.{sets}
use Rattle.rules.specs.Fields.{Table}
use Rattle.rules.specs.Stored.{stores, annotation_record, header_size, body, header, stored}
use Rattle.rules.specs.Layout.{annotation_width, loss_width, isotope_width, item_width, unit_width}
use Rattle.rules.specs.Editions.{Edition}
use Rattle.rules.proofs.Lengths.{losses_of, isotopes_of, items_of, units_of, texts_of, body_length, stored_length}
use Rattle.rules.proofs.Lengths.{section_length, annotation_length, annotations_length, losses_length, isotopes_length, items_length, units_length}
use Rattle.put_bytes.specs.Puts.{max_place, Put}
use Rattle.put_bytes.proofs.Putting.{put_then, put_as, over_zeros}
use Rattle.counts.specs.declared.Counts.{Counts}
use Rattle.store_sections.specs.declared.Cursors.{Cursors}
use Rattle.store_sections.specs.Pages.{places, placed, Event, Ran, joined, begins, Laid}
use Rattle.store_sections.specs.Headers.{behind, end_at, starts_of, header_fields, header_bytes, Headed, counts_of}
use Rattle.store_sections.specs.Fills.{bytes_in, Fills}
use Rattle.store_sections.proofs.Page.{ran_page}
use Rattle.store_sections.proofs.Fills.{fills_parts}

-- ---- where the sections begin

behind_is : {p q k : ℕ} (n size : ℕ) → p ≡ q → k ≡ size * n → q + k ≤ max_place → behind p n size ≡ q + k
behind_is n size e f h = omega (arith, mul_comm n size)

module _ (edition : Edition) (t : Table) (h : length (stored edition t) ≤ max_place) where
  -- each in turn
  starts_and_end : (starts_of edition (counts_of t) ≡ placed (begins header_size (bytes_in edition t))) × (end_at edition (counts_of t) ≡ header_size + length (body edition t))
  starts_and_end =
      let whole = stored_length edition t in
      let sections = body_length edition t in
      let linear = annotations_length edition t in
      let annotations = section_length (annotation_record edition) (annotation_width edition) t (λ a i. annotation_length edition a) in
      let losses = losses_length t in
      let isotopes = isotopes_length t in
      let items = items_length t in
      let units = units_length t in
      let text : length (texts_of t) ≡ 1 * length (texts_of t) = omega arith in
      let first : header_size ≡ header_size = refl in
      let a = behind_is (length t) (annotation_width edition) first annotations (omega arith) in
      let b = behind_is (length (losses_of t)) loss_width a losses (omega arith) in
      let c = behind_is (length (isotopes_of t)) isotope_width b isotopes (omega arith) in
      let d = behind_is (length (items_of t)) item_width c items (omega arith) in
      let e = behind_is (length (units_of t)) unit_width d units (omega arith) in
      let f = behind_is (length (texts_of t)) 1 e text (omega arith) in
      (λ i. record { annotations = header_size; losses = a i; isotopes = b i; items = c i; units = d i; text = e i }, omega (arith, f))

  -- the header is the table's, and the cursors stand where its sections begin
  pub header_is : header_bytes edition (counts_of t) ≡ stores (header edition t)
  header_is = ap₂ (λ (c : Cursors) (n : ℕ). stores (header_fields edition (counts_of t) c n)) starts_and_end.0 starts_and_end.1

  pub starts_laid : Laid header_size (starts_of edition (counts_of t)) (bytes_in edition t)
  starts_laid = record { starts = ap places starts_and_end.0; fits = omega (arith, h, stored_length edition t, body_length edition t) }

-- ---- the whole

-- the sections
pub body_put : {edition : Edition} {d e : List ℕ} {c c' : Cursors} {es : List Event} (t : Table) → Laid header_size c (bytes_in edition t) → Ran d c es e c' → Fills edition t es
    → Put d header_size (body edition t) e (header_size + length (body edition t))
body_put {d = d} {e} {c} {c'} {es} t l a f =
    let q = fills_parts f in
    let p = ran_page a (subst (Laid header_size c) (sym q) l) in
    record { small = p.small; next = omega (arith, l.fits); made = p.made ∙ ap (λ (ls : List (List ℕ)). sets d header_size (joined ls)) q }

-- behind the header, whatever the output was
pub table_put : {edition : Edition} {d₀ d e : List ℕ} {n : Counts} {c c' : Cursors} {es : List Event} (t : Table) → n ≡ counts_of t → Headed edition d₀ n d c → Ran d c es e c'
    → Fills edition t es → length (stored edition t) ≤ max_place → Put d₀ 0 (stored edition t) e (header_size + length (body edition t))
table_put {edition} {n = n} {c = c} t q p a f h =
    let s : starts_of edition (counts_of t) ≡ c = ap (starts_of edition) (sym q) ∙ sym p.starts in
    let l = subst (λ (k : Cursors). Laid header_size k (bytes_in edition t)) s (starts_laid edition t h) in
    put_then (put_as p.put (ap (header_bytes edition) q ∙ header_is edition t h)) (body_put t l a f)

-- over a cleared output
pub table_stored : {edition : Edition} {d₀ d e : List ℕ} {n : Counts} {c c' : Cursors} {es : List Event} (room : ℕ) (t : Table) → d₀ ≡ replicate room 0
    → n ≡ counts_of t → Headed edition d₀ n d c → Ran d c es e c' → Fills edition t es → length (stored edition t) ≤ room
    → e ≡ stored edition t ++ replicate (room - length (stored edition t)) 0
table_stored {edition} {e = e} room t z q p a f h =
    let g : length (stored edition t) ≤ max_place = omega (arith, p.put.small, ap length z, length-replicate {A = ℕ} room 0) in
    let w = table_put t q p a f g in
    over_zeros (subst (λ (x : List ℕ). Put x 0 (stored edition t) e (header_size + length (body edition t))) z w) h

-- where the header and zeros stand already
pub page_stored : {d e : List ℕ} {c c' : Cursors} {es : List Event} (edition : Edition) (room : ℕ) (t : Table) → d ≡ stores (header edition t) ++ replicate (room - header_size) 0
    → Laid header_size c (bytes_in edition t) → Ran d c es e c' → Fills edition t es → length (stored edition t) ≤ room → e ≡ stored edition t ++ replicate (room - length (stored edition t)) 0
page_stored {d} {e} edition room t q l a f h =
    let z : List ℕ = replicate room 0 in
    let s : List ℕ = stores (header edition t) in
    let r : List ℕ = replicate (room - header_size) 0 in
    let b : header_size ≤ room = omega (arith, stored_length edition t) in
    let g = length-append s r in
    let u = length-replicate {A = ℕ} (room - header_size) 0 in
    let v = length-replicate {A = ℕ} room 0 in
    let n : length z ≤ max_place = omega (arith, a.small, ap length q) in
    let p : Put z 0 s (sets z 0 s) header_size = record { small = n; next = refl; made = refl } in
    let k : Put z 0 s d header_size = record { small = n; next = refl; made = q ∙ sym (over_zeros p b) } in
    over_zeros (put_then k (body_put t l a f)) h
