-- The record of an annotation that is spelled, field by field. Assumes nothing.
use Prim.Native.Nat.{ℕ}
use mathlib.Core.Path.{◌≡◌, refl, sym, ap, ap₂, ◌∙◌}
use mathlib.Core.List.{List, [], ◌∷◌, ◌++◌}
use lib.ListN.{length}
use Rattle.std.specs.Prelude.{Option}
use Rattle.lang.specs.Mark.{Kept, here, later, marks_of}
use Rattle.rules.specs.Numbers.{Number}
use Rattle.rules.specs.Ions.{ion_text, ion_map, series, internal, immonium, precursor, reference, named, composed, smiles, unknown, SpelledIon}
use Rattle.rules.specs.Losses.{Loss}
use Rattle.rules.specs.Isotopes.{isotopes_map}
use Rattle.rules.specs.Adducts.{Item}
use Rattle.rules.specs.Annotations.{SpelledAnnotation}
use Rattle.rules.specs.Fields.{filled, filled_cut}
use Rattle.rules.specs.Limits.{part, opt_part, ion_parts, analyte_part, charge_part, deviation_part, confidence_part, annotation_parts, annotation_marks}
use Rattle.rules.specs.Editions.{Edition, ed1, ed2}
use Rattle.rules.specs.Stored.{little, flag, u8, u16, u32, stores, isotope_records, residue_count, common_fields, added_fields, annotation_record}
use Rattle.rules.proofs.Keeps.{kept_tail, kept_part}
use Rattle.counts.specs.declared.Counts.{Counts}
use Rattle.faults.specs.declared.Refusal.{Refusal}
use Rattle.read_annotation.specs.declared.Parts.{Parts}
use Rattle.read_annotation.proofs.SaysWhat.{table_of}
use Rattle.read_annotation.proofs.Ions.{ion_told}
use Rattle.read_annotation.proofs.SpelledAnnotation.{deviation_fault, confidence_fault, fault0, fault1, fault2, parts_read}
use Rattle.store_sections.proofs.Events.{flat_append}
use Rattle.store_annotation.specs.Records.{front_bytes, tail_bytes, count_bytes, record_bytes, added_bytes, record_in}
use Rattle.store_annotation.proofs.Numbers.{analyte_told, present_told, charge_told, deviation_told, confidence_told}
use Rattle.store_annotation.proofs.Ions.{ion_stored}

-- a table has the residues that the spelling has
count_filled : (x : SpelledIon) → residue_count (ion_map filled filled_cut x) ≡ residue_count x
count_filled (series s n t) = refl
count_filled (internal c m n t) = refl
count_filled (immonium c m) = refl
count_filled precursor = refl
count_filled (reference n) = refl
count_filled (named t) = refl
count_filled (composed g) = refl
count_filled (smiles t) = refl
count_filled (unknown n) = refl

-- of the annotation a, followed by k, read as number `nth` of a line of `end` bytes, from f on
module _ (a : SpelledAnnotation) (k : List ℕ) (nth end : ℕ) (f : Option Refusal) where
  abbrev pub seen : Parts
  seen = parts_read a k nth end f

  -- the first broken limit behind the ion, and behind the adduct
  abbrev pub ion_seen : Option Refusal
  ion_seen = fault1 a k end (fault0 a k nth end f)

  abbrev adduct_seen : Option Refusal
  adduct_seen = fault2 a k end (fault0 a k nth end f)

  common_stored : (i at : ℕ) → Kept (annotation_marks i a at) → (n : Counts) (ls : List (Loss Number)) (xs : List (Item Number)) → n.losses ≡ length ls
      → n.isotopes ≡ length (isotope_records (isotopes_map filled a.isotopes)) → n.items ≡ length xs
      → n.units ≡ seen.front.ion.units → n.text ≡ seen.front.ion.text
      → record_bytes seen.front seen.tail n ≡ stores (common_fields (table_of a ls xs))
  unfolding front_bytes tail_bytes count_bytes
  common_stored i at kept n ls xs nl ni nx nu nt =
      let keep = kept_part at (annotation_parts a) (kept_tail kept) in
      let pa = keep (opt_part analyte_part a.analyte) (later here) in
      let pi = keep (part (ion_text a.ion) (λ at. marks_of at (ion_parts a.ion))) (later (later here)) in
      let pc = keep (opt_part charge_part a.charge) (later (later (later (later (later (later here)))))) in
      let pd = keep (opt_part deviation_part a.deviation) (later (later (later (later (later (later (later here))))))) in
      let pe = keep (opt_part confidence_part a.confidence) (later (later (later (later (later (later (later (later here)))))))) in
      let an = analyte_told a.analyte pa.0 pa.1 in
      let io = ion_stored a.ion pi.0 ion_seen pi.1 in
      let it = ion_told a.ion ion_seen in
      let ch = charge_told a.charge pc.0 pc.1 in
      let de = deviation_told a.deviation pd.0 (deviation_fault a.charge a.deviation a.confidence k end adduct_seen) pd.1 in
      let co = confidence_told a.confidence pe.0 (confidence_fault a.charge a.deviation a.confidence k end adduct_seen) pe.1 in
      let units = nu ∙ it.units in
      let text = nt ∙ it.text in
      λ j. stores (
      u8 (io.kind j) ∷ u8 (flag a.marked) ∷ u8 (present_told a.analyte j) ∷ u8 (io.letter j) ∷ u16 (an j) ∷ u16 (io.position j) ∷ u16 (io.end j)
      ∷ u8 (ch j) ∷ u8 (de.kind j) ∷ u8 (de.places j) ∷ u8 (co.kind j) ∷ u8 (co.places j) ∷ u8 0 ∷ [])
      ++ (de.value j
      ++ stores (u32 (co.value j) ∷ u16 (text j) ∷ u16 (units j) ∷ u8 (nl j) ∷ u8 (ni j) ∷ u8 (nx j) ∷ u8 0 ∷ []))

  added_stored : (e : Edition) (ls : List (Loss Number)) (xs : List (Item Number)) → added_bytes e seen.front ≡ stores (added_fields e (table_of a ls xs))
  added_stored ed1 ls xs = refl
  added_stored ed2 ls xs = ap (λ (n : ℕ). stores (u16 n ∷ [])) (sym (count_filled a.ion))

  -- in an edition
  pub record_stored : (e : Edition) (i at : ℕ) → Kept (annotation_marks i a at) → (n : Counts) (ls : List (Loss Number)) (xs : List (Item Number)) → n.losses ≡ length ls
      → n.isotopes ≡ length (isotope_records (isotopes_map filled a.isotopes)) → n.items ≡ length xs
      → n.units ≡ seen.front.ion.units → n.text ≡ seen.front.ion.text
      → record_in e seen.front seen.tail n ≡ stores (annotation_record e (table_of a ls xs))
  record_stored e i at kept n ls xs nl ni nx nu nt =
      ap₂ ◌++◌ (common_stored i at kept n ls xs nl ni nx nu nt) (added_stored e ls xs)
      ∙ sym (flat_append (λ g. little g.width g.value) (common_fields (table_of a ls xs)) (added_fields e (table_of a ls xs)))
