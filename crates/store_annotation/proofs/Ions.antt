-- What is stored of an ion that is spelled. Assumes nothing.
use Prim.Native.Nat.{ℕ}
use mathlib.Core.Path.{◌≡◌, refl, ap, ◌∙◌}
use mathlib.Core.List.{List, ◌∷◌, ◌++◌, append-nil}
use lib.ListN.{length, drop}
use Rattle.std.specs.Prelude.{Option}
use Rattle.lang.specs.Parts.{items, flat}
use Rattle.lang.specs.Mark.{Kept, here, later, marks_of}
use Rattle.rules.specs.Ions.{series, internal, immonium, precursor, reference, named, composed, smiles, unknown, ion_text, ion_map, SpelledIon}
use Rattle.rules.specs.Fields.{filled, filled_cut}
use Rattle.rules.specs.Limits.{max_position, opt_part, number_part, formula_part, ion_parts}
use Rattle.rules.specs.Stored.{stores, unit_record, kind, ion_fields}
use Rattle.rules.specs.Layout.{unit_section, text_section}
use Rattle.rules.proofs.Keeps.{kept_part}
use Rattle.faults.specs.declared.Refusal.{Refusal}
use Rattle.put_formula.specs.Chains.{chain}
use Rattle.put_formula.specs.Records.{records_of}
use Rattle.put_formula.proofs.PutUnits.{records_read}
use Rattle.store_sections.specs.Pages.{bytes_of}
use Rattle.read_ion.specs.Stored.{kind_number}
use Rattle.read_ion.proofs.SpelledIon.{ion_read, ion_spelled_text, ion_spelled_formula}
use Rattle.sort_changes.proofs.Fits.{units_told}
use Rattle.store_annotation.specs.Events.{ion_events}
use Rattle.read_annotation.proofs.Ions.{told_within}
use Rattle.store_annotation.proofs.Numbers.{label_told}

-- ---- its fields

pub record IonStored (x : SpelledIon) (g : Option Refusal) : Type 0 where
  pub kind : kind_number (ion_read x g).kind ≡ kind (ion_map filled filled_cut x)
  pub letter : (ion_read x g).letter ≡ (ion_fields (ion_map filled filled_cut x)).letter
  pub position : (ion_read x g).position ≡ (ion_fields (ion_map filled filled_cut x)).position
  pub end : (ion_read x g).last ≡ (ion_fields (ion_map filled filled_cut x)).end

pub ion_stored : (x : SpelledIon) (at : ℕ) (g : Option Refusal) → Kept (marks_of at (ion_parts x)) → IonStored x g
ion_stored (series s n t) at g k =
    let p = kept_part at (ion_parts (series s n t)) k (number_part max_position n) (later here) in
    record { kind = refl; letter = refl; position = told_within n p.0 p.1; end = refl }
ion_stored (internal c m n t) at g k =
    let p = kept_part at (ion_parts (internal c m n t)) k (number_part max_position m) (later (later here)) in
    let q = kept_part at (ion_parts (internal c m n t)) k (number_part max_position n) (later (later (later (later here)))) in
    record { kind = refl; letter = refl; position = told_within m p.0 p.1; end = told_within n q.0 q.1 }
ion_stored (immonium a m) at g k = record { kind = refl; letter = refl; position = refl; end = refl }
ion_stored precursor at g k = record { kind = refl; letter = refl; position = refl; end = refl }
ion_stored (reference n) at g k = record { kind = refl; letter = refl; position = refl; end = refl }
ion_stored (named t) at g k = record { kind = refl; letter = refl; position = refl; end = refl }
ion_stored (composed f) at g k = record { kind = refl; letter = refl; position = refl; end = refl }
ion_stored (smiles t) at g k = record { kind = refl; letter = refl; position = refl; end = refl }
ion_stored (unknown n) at g k =
    let p = kept_part at (ion_parts (unknown n)) k (opt_part (number_part max_position) n) (later here) in
    record { kind = refl; letter = refl; position = label_told n p.0 p.1; end = refl }

-- ---- its units

-- the records of its units, where it has any
ion_records : (x : SpelledIon) (k : List ℕ) (at : ℕ) (g : Option Refusal) → Kept (marks_of at (ion_parts x))
    → records_of (ion_read x g).units (drop (ion_read x g).start (ion_text x ++ k)) ≡ flat (λ u. stores (unit_record u)) (ion_fields (ion_map filled filled_cut x)).units
unfolding chain
ion_records (series s n t) k at g h = refl
ion_records (internal c m n t) k at g h = refl
ion_records (immonium a m) k at g h = refl
ion_records precursor k at g h = refl
ion_records (reference n) k at g h = refl
ion_records (named t) k at g h = refl
ion_records (composed f) k at g h =
    let us = items f in
    let p = kept_part at (ion_parts (composed f)) h (formula_part f) (later here) in
    ap (records_of (length us)) (ion_spelled_formula f k g)
    ∙ records_read us (125 ∷ k) (units_told us p.0 p.1) (record { no_digit = refl; no_small = refl })
ion_records (smiles t) k at g h = refl
ion_records (unknown n) k at g h = refl

-- ---- by section

module _ (x : SpelledIon) (k : List ℕ) (g : Option Refusal) where
  pub ion_units_lem : (at : ℕ) → Kept (marks_of at (ion_parts x))
      → bytes_of unit_section (ion_events (ion_text x ++ k) (ion_read x g)) ≡ flat (λ u. stores (unit_record u)) (ion_fields (ion_map filled filled_cut x)).units
  unfolding ion_events
  ion_units_lem at h = append-nil (records_of (ion_read x g).units (drop (ion_read x g).start (ion_text x ++ k))) ∙ ion_records x k at g h

  pub ion_name : bytes_of text_section (ion_events (ion_text x ++ k) (ion_read x g)) ≡ (ion_fields (ion_map filled filled_cut x)).text
  unfolding ion_events
  ion_name = append-nil _ ∙ ion_spelled_text x k g
