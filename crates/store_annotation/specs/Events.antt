-- What an annotation stores in each section, from the bytes that begin with it and what was read of them. Assumes nothing.
use Rattle.std.specs.Prelude.{ℕ, ◌-◌, ◌≡◌, cond, List, [], ◌∷◌, ◌++◌, length, take, drop}
use Rattle.rules.specs.Bytes.{bytes}
use Rattle.rules.specs.Texts.{starts_with}
use Rattle.counts.specs.declared.Counts.{Counts}
use Rattle.rules.specs.Layout.{annotation_section, loss_section, isotope_section, item_section, unit_section, text_section}
use Rattle.put_formula.specs.Records.{records_of}
use Rattle.store_sections.specs.declared.Cursors.{Cursors}
use Rattle.store_sections.specs.Pages.{Event, Ran}
use Rattle.read_ion.specs.declared.IonRead.{IonRead}
use Rattle.read_isotopes.specs.Records.{filed_isotopes}
use Rattle.sort_changes.specs.Gathered.{gathered}
use Rattle.sort_changes.specs.Events.{no_keys, behind_changes, change_events}
use Rattle.read_annotation.specs.declared.Front.{Front}
use Rattle.read_annotation.specs.declared.Tail.{Tail}
use Rattle.read_annotation.specs.declared.Parts.{Parts}
use Rattle.read_annotation.specs.Measured.{behind_ion, annotation_size}
use Rattle.store_annotation.specs.declared.Added.{Added}
use Rattle.store_annotation.specs.declared.Stored.{Stored}
use Rattle.rules.specs.Editions.{Edition}
use Rattle.store_annotation.specs.Records.{record_in}

-- the ion's units and its text
unfoldable pub ion_events : List ℕ → IonRead → List Event
ion_events s x = (unit_section, records_of x.units (drop x.start s)) ∷ (text_section, take x.text (drop 1 (drop x.start s))) ∷ []

-- ---- the adduct

unfoldable pub adduct_count : List ℕ → ℕ
adduct_count s = cond (starts_with (bytes "[M") s) (length (gathered no_keys (drop 2 s)).slots) 0

unfoldable pub adduct_events : List ℕ → List Event
adduct_events s = cond (starts_with (bytes "[M") s) (change_events item_section (drop 2 s)) []

pub record StoresAdduct (s d : List ℕ) (c : Cursors) (e : List ℕ) (r : Added) : Type 0 where
  pub n : r.n ≡ adduct_count s
  pub ran : Ran d c (adduct_events s) e r.cursors

-- ---- the annotation, by what is left behind each of its parts

abbrev pub behind_filed_isotopes : List ℕ → List ℕ
behind_filed_isotopes s = drop (length s - length (filed_isotopes s).rest) s

-- what the record of an annotation counts: units and text are those of its ion alone
abbrev pub stored_counts : List ℕ → List ℕ → List ℕ → IonRead → Counts
stored_counts s1 s2 s3 x =
    record {
      annotations = 1;
      losses = length (gathered no_keys s1).slots;
      isotopes = (filed_isotopes s2).known.n;
      items = adduct_count s3;
      units = x.units;
      text = x.text;
    }

-- s1 is left behind the ion, s2 behind the losses, s3 behind the isotopes
abbrev pub events_with : Edition → List ℕ → List ℕ → List ℕ → List ℕ → Front → Tail → List Event
events_with e s s1 s2 s3 a b =
    ion_events (drop a.at s) a.ion
    ++ (change_events loss_section s1 ++ ((isotope_section, (filed_isotopes s2).known.bytes) ∷ (adduct_events s3 ++ ((annotation_section, record_in e a b (stored_counts s1 s2 s3 a.ion)) ∷ []))))

unfoldable pub annotation_events : Edition → List ℕ → Parts → List Event
annotation_events e s p = events_with e s (behind_ion s p) (behind_changes (behind_ion s p)) (behind_filed_isotopes (behind_changes (behind_ion s p))) p.front p.tail

pub record StoresAnnotation (edition : Edition) (s : List ℕ) (p : Parts) (d : List ℕ) (c : Cursors) (e : List ℕ) (r : Stored) : Type 0 where
  pub len : r.len ≡ annotation_size s p
  pub ran : Ran d c (annotation_events edition s p) e r.cursors
