-- Events that store the sections of a table. Assumes nothing.
use Rattle.std.specs.Prelude.{◌≡◌, List, map, ℕ}
use Rattle.lang.specs.Parts.{flat}
use Rattle.rules.specs.Fields.{Table}
use Rattle.rules.specs.Editions.{Edition}
use Rattle.rules.specs.Stored.{stores, annotation_record, loss_record, isotope_records, item_record, unit_record, annotation_units, annotation_texts, sections}
use Rattle.rules.specs.Layout.{annotation_section, loss_section, isotope_section, item_section, unit_section, text_section}
use Rattle.store_sections.specs.Pages.{Event, bytes_of}

-- the bytes of each section of a table
abbrev pub bytes_in : Edition → Table → List (List ℕ)
bytes_in e t = map (λ s. s.bytes) (sections e t)

-- each section gets its bytes, in any order of the sections
pub record Fills (e : Edition) (t : Table) (es : List Event) : Type 0 where
  pub annotations : bytes_of annotation_section es ≡ flat (λ a. stores (annotation_record e a)) t
  pub losses : bytes_of loss_section es ≡ flat (λ l. stores (loss_record l)) (flat (λ a. a.losses) t)
  pub isotopes : bytes_of isotope_section es ≡ flat (λ x. stores x) (flat (λ a. isotope_records a.isotopes) t)
  pub items : bytes_of item_section es ≡ flat (λ x. stores (item_record x)) (flat (λ a. a.adduct) t)
  pub units : bytes_of unit_section es ≡ flat (λ u. stores (unit_record u)) (flat annotation_units t)
  pub text : bytes_of text_section es ≡ flat annotation_texts t
