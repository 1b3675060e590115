-- An annotation as the parts of a stored table say, and what is left behind it, which depends on the edition. Assumes nothing.
use Rattle.std.specs.Prelude.{ℕ, ◌+◌, ◌*◌, min, ◌≡◌, cond, List, [], ◌++◌, eqb, length, get_or, drop}
use Rattle.rules.specs.Bytes.{bytes}
use Rattle.rules.specs.Limits.{max_losses, max_isotopes, max_items}
use Rattle.rules.specs.Layout.{annotation_width, loss_width, isotope_width, item_width, unit_width, loss_count_at, isotope_count_at, item_count_at}
use Rattle.rules.specs.Editions.{Edition}
use Rattle.put_bytes.specs.Puts.{Put}
use Rattle.store_sections.specs.declared.Cursors.{Cursors}
use Rattle.print_parts.specs.declared.PrintedTo.{PrintedTo}
use Rattle.print_parts.specs.Numbers.{up_to}
use Rattle.print_parts.specs.Changes.{changes_printed, unit_bytes, name_bytes}
use Rattle.print_parts.specs.Isotopes.{isotopes_printed}
use Rattle.print_parts.specs.Tails.{tail_printed}
use Rattle.print_ion.specs.Texts.{ion_units, ion_bytes}
use Rattle.print_ion.specs.Fronts.{front_printed}
use Rattle.print_table.specs.declared.Printed.{Printed}
use Rattle.print_table.specs.Parts.{StoredParts, stored_parts_at}

-- how many losses, isotopes or adduct items; no more than may be
abbrev pub row_of : List ℕ → ℕ → ℕ → ℕ
row_of s i most = up_to (get_or s i 0) most

abbrev pub losses_in : StoredParts → ℕ
losses_in p = row_of p.notes loss_count_at max_losses

abbrev pub isotopes_in : StoredParts → ℕ
isotopes_in p = row_of p.notes isotope_count_at max_isotopes

abbrev pub items_in : StoredParts → ℕ
items_in p = row_of p.notes item_count_at max_items

-- the adduct of n items
unfoldable pub adduct_printed : ℕ → List ℕ → List ℕ → List ℕ → List ℕ
adduct_printed n x u t = cond (eqb n 0) [] (bytes "[M" ++ (changes_printed n x u t ++ bytes "]"))

pub record PrintsAdduct (n : ℕ) (x u t d : List ℕ) (to : ℕ) (e : List ℕ) (r : PrintedTo) : Type 0 where
  pub put : Put d to (adduct_printed n x u t) e r.to
  pub units : r.units ≡ min (unit_bytes n x) (length u)
  pub text : r.text ≡ min (name_bytes n x) (length t)

-- units and text behind those of the ion, and behind those of the losses
abbrev pub units_behind_ion : StoredParts → List ℕ
units_behind_ion p = drop (unit_width * ion_units p.notes) p.units

abbrev pub text_behind_ion : StoredParts → List ℕ
text_behind_ion p = drop (ion_bytes p.notes) p.text

abbrev pub units_behind_losses : StoredParts → List ℕ
units_behind_losses p = drop (unit_bytes (losses_in p) p.losses) (units_behind_ion p)

abbrev pub text_behind_losses : StoredParts → List ℕ
text_behind_losses p = drop (name_bytes (losses_in p) p.losses) (text_behind_ion p)

unfoldable pub annotation_printed : StoredParts → List ℕ
annotation_printed p =
    front_printed p.notes p.units p.text
    ++ (changes_printed (losses_in p) p.losses (units_behind_ion p) (text_behind_ion p)
    ++ (isotopes_printed (isotopes_in p) p.isotopes
    ++ (adduct_printed (items_in p) p.items (units_behind_losses p) (text_behind_losses p) ++ tail_printed p.notes)))

-- what is left behind the annotation, in a table of an edition
unfoldable pub parts_behind : Edition → StoredParts → StoredParts
parts_behind edition p =
    record {
      notes = drop (annotation_width edition) p.notes;
      losses = drop (loss_width * losses_in p) p.losses;
      isotopes = drop (isotope_width * isotopes_in p) p.isotopes;
      items = drop (item_width * items_in p) p.items;
      units = drop (unit_bytes (items_in p) p.items) (units_behind_losses p);
      text = drop (name_bytes (items_in p) p.items) (text_behind_losses p);
    }

-- how many bytes of units and of text the annotation has: its ion, its losses and its adduct items
abbrev pub units_in : StoredParts → ℕ
units_in p = unit_width * ion_units p.notes + unit_bytes (losses_in p) p.losses + unit_bytes (items_in p) p.items

abbrev pub text_in : StoredParts → ℕ
text_in p = ion_bytes p.notes + name_bytes (losses_in p) p.losses + name_bytes (items_in p) p.items

-- n bytes further in the table, or its end
abbrev pub further : List ℕ → ℕ → ℕ → ℕ
further table at n = min (at + n) (length table)

-- the cursors behind the annotation whose parts stand at c
unfoldable pub cursors_behind : Edition → List ℕ → Cursors → Cursors
cursors_behind edition table c =
    record {
      annotations = further table c.annotations (annotation_width edition);
      losses = further table c.losses (loss_width * losses_in (stored_parts_at table c));
      isotopes = further table c.isotopes (isotope_width * isotopes_in (stored_parts_at table c));
      items = further table c.items (item_width * items_in (stored_parts_at table c));
      units = further table c.units (units_in (stored_parts_at table c));
      text = further table c.text (text_in (stored_parts_at table c));
    }

pub record PrintsAnnotation (edition : Edition) (table : List ℕ) (c : Cursors) (d : List ℕ) (to : ℕ) (e : List ℕ) (r : Printed) : Type 0 where
  pub put : Put d to (annotation_printed (stored_parts_at table c)) e r.to
  pub cursors : r.cursors ≡ cursors_behind edition table c
