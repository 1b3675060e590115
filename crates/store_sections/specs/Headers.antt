-- The header of a stored table, from how many there are in each section. Assumes nothing.
use Rattle.std.specs.Prelude.{ℕ, ◌+◌, ◌*◌, min, ◌≡◌, List, [], ◌∷◌, length}
use Rattle.lang.specs.Parts.{flat}
use Rattle.rules.specs.Fields.{Table}
use Rattle.rules.specs.Stored.{Field, u16, stores, isotope_records, annotation_units, annotation_texts, header_size}
use Rattle.rules.specs.Editions.{Edition, edition_number}
use Rattle.rules.specs.Layout.{annotation_width, loss_width, isotope_width, item_width, unit_width}
use Rattle.put_bytes.specs.Puts.{max_place, Put}
use Rattle.counts.specs.declared.Counts.{Counts}
use Rattle.store_sections.specs.declared.Cursors.{Cursors}

-- the place behind n things of a size, or the largest
abbrev pub behind : ℕ → ℕ → ℕ → ℕ
behind p n size = min (p + n * size) max_place

-- where the sections begin; a byte of text has 1 byte
abbrev pub losses_at : Edition → Counts → ℕ
losses_at e n = behind header_size n.annotations (annotation_width e)

abbrev pub isotopes_at : Edition → Counts → ℕ
isotopes_at e n = behind (losses_at e n) n.losses loss_width

abbrev pub items_at : Edition → Counts → ℕ
items_at e n = behind (isotopes_at e n) n.isotopes isotope_width

abbrev pub units_at : Edition → Counts → ℕ
units_at e n = behind (items_at e n) n.items item_width

abbrev pub text_at : Edition → Counts → ℕ
text_at e n = behind (units_at e n) n.units unit_width

abbrev pub end_at : Edition → Counts → ℕ
end_at e n = behind (text_at e n) n.text 1

abbrev pub starts_of : Edition → Counts → Cursors
starts_of e n =
    record {
      annotations = header_size;
      losses = losses_at e n;
      isotopes = isotopes_at e n;
      items = items_at e n;
      units = units_at e n;
      text = text_at e n;
    }

abbrev pub pair : ℕ → ℕ → List ℕ
pair a b = stores (u16 a ∷ u16 b ∷ [])

-- edition and length, then of each section how many and where
abbrev pub header_fields : Edition → Counts → Cursors → ℕ → List Field
header_fields edition n c end =
    u16 (edition_number edition) ∷ u16 end ∷ u16 n.annotations ∷ u16 c.annotations
    ∷ u16 n.losses ∷ u16 c.losses ∷ u16 n.isotopes ∷ u16 c.isotopes
    ∷ u16 n.items ∷ u16 c.items ∷ u16 n.units ∷ u16 c.units ∷ u16 n.text ∷ u16 c.text ∷ []

abbrev pub header_bytes : Edition → Counts → List ℕ
header_bytes edition n = stores (header_fields edition n (starts_of edition n) (end_at edition n))

-- the header is stored over d, which is then e; the cursors stand where the sections begin
pub record Headed (edition : Edition) (d : List ℕ) (n : Counts) (e : List ℕ) (c : Cursors) : Type 0 where
  pub put : Put d 0 (header_bytes edition n) e header_size
  pub starts : c ≡ starts_of edition n

-- how many there are in each section of a table
abbrev pub counts_of : Table → Counts
counts_of t =
    record {
      annotations = length t;
      losses = length (flat (λ a. a.losses) t);
      isotopes = length (flat (λ a. isotope_records a.isotopes) t);
      items = length (flat (λ a. a.adduct) t);
      units = length (flat annotation_units t);
      text = length (flat annotation_texts t);
    }
