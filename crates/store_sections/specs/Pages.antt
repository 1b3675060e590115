-- Bytes stored section by section, each section at a cursor of its own. Assumes nothing.
use Rattle.std.specs.Prelude.{ℕ, ◌+◌, ◌≤◌, min, ◌≡◌, cond, List, [], ◌∷◌, eqb, length, get_or, set}
use Rattle.std.proofs.lemmas.List.Edits.{sets}
use Rattle.rules.specs.Layout.{annotation_section, loss_section, isotope_section, item_section, unit_section, text_section}
use Rattle.lang.specs.Parts.{flat}
use Rattle.put_bytes.specs.Puts.{max_place}
use Rattle.store_sections.specs.declared.Cursors.{Cursors}

-- ---- cursors

-- in the order of the sections
abbrev pub places : Cursors → List ℕ
places c = c.annotations ∷ c.losses ∷ c.isotopes ∷ c.items ∷ c.units ∷ c.text ∷ []

abbrev pub placed : List ℕ → Cursors
placed l =
    record {
      annotations = get_or l annotation_section 0;
      losses = get_or l loss_section 0;
      isotopes = get_or l isotope_section 0;
      items = get_or l item_section 0;
      units = get_or l unit_section 0;
      text = get_or l text_section 0;
    }

-- the cursor of section j; that of a section that there is not stands behind every output
abbrev pub at : ℕ → Cursors → ℕ
at j c = get_or (places c) j max_place

-- the cursors, with that of section j set to r
abbrev pub moved : ℕ → ℕ → Cursors → Cursors
moved j r c = placed (set (places c) j r)

-- ---- events

-- a section, and the bytes that it gets
abbrev pub Event : Type 0
Event = ℕ × List ℕ

-- the bytes that section j gets
abbrev pub bytes_for : ℕ → Event → List ℕ
bytes_for j x = cond (eqb j x.0) x.1 []

abbrev pub bytes_of : ℕ → List Event → List ℕ
bytes_of j es = flat (bytes_for j) es

-- a cursor goes behind the bytes of its event, or to the largest place
abbrev pub next : Cursors → Event → Cursors
next c x = moved x.0 (min (at x.0 c + length x.1) max_place) c

unfoldable pub ends : Cursors → List Event → Cursors
ends c [] = c
ends c (x ∷ es) = ends (next c x) es

-- the bytes of each event are stored at the cursor of its section
unfoldable pub run : List ℕ → Cursors → List Event → List ℕ
run d c [] = d
run d c (x ∷ es) = run (sets d (at x.0 c) x.1) (next c x) es

-- output d and cursors c are e and c' after the events
pub record Ran (d : List ℕ) (c : Cursors) (es : List Event) (e : List ℕ) (c' : Cursors) : Type 0 where
  pub small : length d ≤ max_place
  pub made : e ≡ run d c es
  pub place : c' ≡ ends c es

-- ---- pages

-- the bytes of each section
abbrev pub parts : List Event → List (List ℕ)
parts es =
    bytes_of annotation_section es ∷ bytes_of loss_section es ∷ bytes_of isotope_section es ∷ bytes_of item_section es ∷ bytes_of unit_section es
    ∷ bytes_of text_section es ∷ []

abbrev pub joined : List (List ℕ) → List ℕ
joined ls = flat (λ l. l) ls

-- where each of these begins, and where it ends, one behind the other from a place on
abbrev pub begins : ℕ → List (List ℕ) → List ℕ
begins p [] = []
begins p (l ∷ ls) = p ∷ begins (p + length l) ls

abbrev pub stops : ℕ → List (List ℕ) → List ℕ
stops p [] = []
stops p (l ∷ ls) = (p + length l) ∷ stops (p + length l) ls

-- the cursors stand where the sections begin, one behind the other from a place on, and none stops at the largest place
pub record Laid (base : ℕ) (c : Cursors) (ls : List (List ℕ)) : Type 0 where
  pub starts : places c ≡ begins base ls
  pub fits : base + length (joined ls) ≤ max_place
