-- A stored table has at most 43,628 bytes; so the length, the counts and the offsets in its header fit a u16. Assumes nothing.
use Prim.Native.Nat.{ℕ, ◌+◌, ◌*◌, ◌≤◌}
use mathlib.Core.List.{List, [], ◌∷◌, ◌++◌}
use native.Mathlib.Omega.{arith}
use lib.ListN.{length, length-append}
use Rattle.lang.specs.Parts.{flat}
use Rattle.lang.specs.Mark.{In, here, later}
use Rattle.rules.specs.Numbers.{Number}
use Rattle.rules.specs.Losses.{Loss}
use Rattle.rules.specs.Annotations.{TableAnnotation}
use Rattle.rules.specs.Fields.{Table}
use Rattle.rules.specs.Limits.{max_units, max_text}
use Rattle.rules.specs.Layout.{added_width, unit_width}
use Rattle.rules.specs.Largest.{max_annotation_bytes, max_any_table}
use Rattle.rules.specs.Answers.{SoundIn, Sound}
use Rattle.rules.specs.Stored.{Field, ion_fields, lost_units, lost_name, added_units, Section, sections, header_size, counts, header, stored}
use Rattle.rules.specs.Editions.{Edition, ed1, ed2, current, edition_number, LineEdition}
use Rattle.rules.proofs.Totals.{total, length_flat, total_le, total_add, total_times, in_none, in_cons}
use Rattle.rules.proofs.Bounds.{Small, Bounded, table_few, table_bounded}
use Rattle.rules.proofs.Lengths.{annotations_length, losses_length, isotopes_length, items_length, units_length, weight, stored_weight}

-- the units and name bytes of all losses
losses_weigh : (ls : List (Loss Number)) → ((l : Loss Number) → In l ls → Small (lost_units l.what) (lost_name l.what))
    → unit_width * total (λ l. length (lost_units l.what)) ls + total (λ l. length (lost_name l.what)) ls ≤ max_text * length ls
losses_weigh ls h =
    omega (
      arith,
      total_le (λ l. unit_width * length (lost_units l.what) + length (lost_name l.what)) max_text ls (λ l i. (h l i).weight),
      total_add (λ l. unit_width * length (lost_units l.what)) (λ l. length (lost_name l.what)) ls,
      total_times unit_width (λ l. length (lost_units l.what)) ls,
    )

-- no edition adds more than the current one
pub added_least : (e : Edition) → added_width e ≤ added_width current
added_least ed1 = omega arith
added_least ed2 = omega arith

pub weight_fits : (e : Edition) (a : TableAnnotation) → Bounded a → weight e a ≤ max_annotation_bytes
weight_fits e a h =
    let u = (ion_fields a.ion).units in
    let lu = flat (λ l. lost_units l.what) a.losses in
    let iu = flat (λ x. added_units x.what) a.adduct in
    let ln = flat (λ l. lost_name l.what) a.losses in
    omega (
      arith,
      added_least e,
      h.losses,
      h.isotopes,
      h.adduct,
      h.ion.weight,
      losses_weigh a.losses h.loss,
      total_le (λ x. length (added_units x.what)) max_units a.adduct h.item,
      length-append u (lu ++ iu),
      length-append lu iu,
      length-append (ion_fields a.ion).text ln,
      length_flat (λ l. lost_units l.what) a.losses,
      length_flat (λ x. added_units x.what) a.adduct,
      length_flat (λ l. lost_name l.what) a.losses,
    )

pub sizes_fit : (e : Edition) (t : Table) → {l : LineEdition} {d : Edition} → SoundIn l d t → length (stored e t) ≤ max_any_table
sizes_fit e t s =
    omega (arith, stored_weight e t, total_le (weight e) max_annotation_bytes t (λ a i. weight_fits e a (table_bounded t s a i)), table_few t s)

-- ---- the header

-- no count and no offset is past the end of the sections, as each member of a section has a byte
counts_le : (at : ℕ) (ss : List Section) → ((s : Section) → In s ss → s.count ≤ length s.bytes) → (f : Field) → In f (counts at ss)
    → f.value ≤ at + total (λ s. length s.bytes) ss
counts_le at [] h = λ f i. absurd (in_none i)
counts_le at (s ∷ ss) h =
    let P : Field → Type 0 = λ f. f.value ≤ at + (length s.bytes + total (λ s. length s.bytes) ss) in
    let rest = counts_le (at + length s.bytes) ss (λ r j. h r (later j)) in
    in_cons P (omega (arith, h s here)) (in_cons P (omega arith) (λ f i. omega (arith, rest f i)))

sections_full : (e : Edition) (t : Table) (s : Section) → In s (sections e t) → s.count ≤ length s.bytes
sections_full e t =
    let P : Section → Type 0 = λ s. s.count ≤ length s.bytes in
    in_cons P (omega (arith, annotations_length e t)) (in_cons P (omega (arith, losses_length t)) (in_cons P (omega (arith, isotopes_length t))
    (in_cons P (omega (arith, items_length t)) (in_cons P (omega (arith, units_length t)) (in_cons P (omega arith) (λ s i. absurd (in_none i)))))))

number_fits : (e : Edition) → edition_number e ≤ max_any_table
number_fits ed1 = omega arith
number_fits ed2 = omega arith

pub header_fits : (e : Edition) (t : Table) → {d : Edition} → Sound d t → (f : Field) → In f (header e t) → f.value ≤ max_any_table
header_fits e t s =
    let P : Field → Type 0 = λ f. f.value ≤ max_any_table in
    let past = counts_le header_size (sections e t) (sections_full e t) in
    in_cons P (number_fits e) (in_cons P (omega (arith, sizes_fit e t s)) (λ f i. omega (arith, sizes_fit e t s, past f i, length_flat (λ s. s.bytes) (sections e t))))
