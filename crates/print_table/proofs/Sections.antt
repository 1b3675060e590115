-- The sections of a stored table are where its header says: the header names the edition and the counts, and these tell where each
-- section begins. Assumes nothing.
use Prim.Native.Nat.{ℕ, ◌+◌}
use mathlib.Core.Path.{◌≡◌, refl, sym, ap, ap₂, ◌∙◌}
use mathlib.Core.List.{List, [], ◌∷◌, ◌++◌, append_assoc, map}
use native.Mathlib.Omega.{arith}
use lib.ListN.{length, get_or, drop, length-append}
use lib.Seq.{drop-append_seam}
use Rattle.rules.specs.Annotations.{TableAnnotation}
use Rattle.rules.specs.Fields.{Table}
use Rattle.rules.specs.Answers.{Sound}
use Rattle.rules.specs.Stored.{Field, stores, loss_record, isotope_records, item_record, unit_record, annotation_record, annotation_units, annotation_texts, section, header, stored}
use Rattle.rules.specs.Layout.{annotation_pair_at, loss_pair_at, isotope_pair_at, item_pair_at, unit_pair_at, text_pair_at, annotation_section, loss_section, isotope_section, item_section, unit_section, text_section}
use Rattle.rules.specs.Editions.{Edition, ed1, ed2}
use Rattle.layout.specs.Editions.{edition_of}
use Rattle.rules.proofs.Lengths.{losses_of, isotopes_of, items_of, units_of, texts_of, stored_length}
use Rattle.rules.proofs.Sizes.{sizes_fit}
use Rattle.store_sections.specs.Pages.{joined, begins}
use Rattle.store_sections.specs.Headers.{starts_of, counts_of}
use Rattle.store_sections.specs.Fills.{bytes_in}
use Rattle.store_sections.proofs.Tables.{starts_laid}
use Rattle.slices.specs.Numbers.{u16_at}
use Rattle.slices.proofs.StoredNumbers.{word_stored}
use Rattle.print_table.specs.Parts.{StoredParts, stored_parts_at, edition_in, counts_at}
use Rattle.print_table.proofs.Parts.{rows_apart, laid}

-- ---- lists one behind the other

-- each with those behind it
abbrev tails : List (List ℕ) → List (List ℕ)
tails [] = []
tails (l ∷ ls) = joined (l ∷ ls) ∷ tails ls

from_begins : (w : List ℕ) (ls : List (List ℕ)) → map (λ p. drop p (w ++ joined ls)) (begins (length w) ls) ≡ tails ls
from_begins w [] = refl
from_begins w (l ∷ ls) =
    ap₂ (λ (x : List ℕ) (y : List (List ℕ)). x ∷ y) (drop-append_seam w (l ++ joined ls))
    (ap₂ (λ (n : ℕ) (v : List ℕ). map (λ p. drop p v) (begins n ls)) (sym (length-append w l)) (sym (append_assoc w l (joined ls))) ∙ from_begins (w ++ l) ls)

-- ---- the parts of a table

abbrev parts_from : List (List ℕ) → StoredParts
parts_from ls =
    record {
      notes = get_or ls annotation_section [];
      losses = get_or ls loss_section [];
      isotopes = get_or ls isotope_section [];
      items = get_or ls item_section [];
      units = get_or ls unit_section [];
      text = get_or ls text_section [];
    }

-- each section before what is left behind it
abbrev pub sectioned : Edition → Table → StoredParts → StoredParts
sectioned e t q =
    record {
      notes = (section (annotation_record e) t).bytes ++ q.notes;
      losses = (section loss_record (losses_of t)).bytes ++ q.losses;
      isotopes = (section (λ x. x) (isotopes_of t)).bytes ++ q.isotopes;
      items = (section item_record (items_of t)).bytes ++ q.items;
      units = (section unit_record (units_of t)).bytes ++ q.units;
      text = texts_of t ++ q.text;
    }

-- behind the last annotation: the sections behind each section
abbrev pub others : Edition → Table → StoredParts
others e t =
    let ls = tails (bytes_in e t) in
    record { notes = get_or ls loss_section []; losses = get_or ls isotope_section []; isotopes = get_or ls item_section []; items = get_or ls unit_section []; units = get_or ls text_section []; text = [] }

pub parts_stored : (e : Edition) (t : Table) → Sound e t → stored_parts_at (stored e t) (starts_of e (counts_of t)) ≡ sectioned e t (others e t)
parts_stored e t s =
    let l = starts_laid e t (omega (arith, sizes_fit e t s)) in
    ap parts_from (ap (map (λ p. drop p (stored e t))) l.starts ∙ from_begins (stores (header e t)) (bytes_in e t))

-- the first annotation before the others
pub first_laid : (e : Edition) (a : TableAnnotation) (t : Table) (q : StoredParts) → sectioned e (a ∷ t) q ≡ laid e a (sectioned e t q)
first_laid e a t q =
    let notes = append_assoc (stores (annotation_record e a)) (section (annotation_record e) t).bytes q.notes in
    let losses = rows_apart (λ l. stores (loss_record l)) a.losses (losses_of t) q.losses in
    let isotopes = rows_apart (λ (fs : List Field). stores fs) (isotope_records a.isotopes) (isotopes_of t) q.isotopes in
    let items = rows_apart (λ x. stores (item_record x)) a.adduct (items_of t) q.items in
    let units = rows_apart (λ u. stores (unit_record u)) (annotation_units a) (units_of t) q.units in
    let text = append_assoc (annotation_texts a) (texts_of t) q.text in
    λ i. record { notes = notes i; losses = losses i; isotopes = isotopes i; items = items i; units = units i; text = text i }

-- ---- the header

pub edition_stored : (e : Edition) (t : Table) → edition_of (edition_in (stored e t)) ≡ e
unfolding u16_at
edition_stored ed1 t = refl
edition_stored ed2 t = refl

pub counts_stored : (e : Edition) (t : Table) → Sound e t → counts_at (stored e t) ≡ counts_of t
counts_stored e t s =
    let size = sizes_fit e t s in
    let is = stored_length e t in
    let annotations = word_stored (length t) (drop (annotation_pair_at + 2) (stored e t)) (omega arith) in
    let losses = word_stored (length (losses_of t)) (drop (loss_pair_at + 2) (stored e t)) (omega arith) in
    let isotopes = word_stored (length (isotopes_of t)) (drop (isotope_pair_at + 2) (stored e t)) (omega arith) in
    let items = word_stored (length (items_of t)) (drop (item_pair_at + 2) (stored e t)) (omega arith) in
    let units = word_stored (length (units_of t)) (drop (unit_pair_at + 2) (stored e t)) (omega arith) in
    let text = word_stored (length (texts_of t)) (drop (text_pair_at + 2) (stored e t)) (omega arith) in
    λ i. record { annotations = annotations i; losses = losses i; isotopes = isotopes i; items = items i; units = units i; text = text i }
