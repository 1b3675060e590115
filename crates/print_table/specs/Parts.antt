-- What the header of a stored table tells, and the parts of the table that stand at six cursors. Assumes nothing.
use Rattle.std.specs.Prelude.{ℕ, List, drop}
use Rattle.rules.specs.Layout.{edition_at, annotation_pair_at, loss_pair_at, isotope_pair_at, item_pair_at, unit_pair_at, text_pair_at}
use Rattle.layout.specs.declared.Edition.{Edition}
use Rattle.layout.specs.Editions.{named_edition}
use Rattle.slices.specs.Numbers.{u16_at}
use Rattle.counts.specs.declared.Counts.{Counts}
use Rattle.store_sections.specs.declared.Cursors.{Cursors}

-- what is left of the table from each cursor on
pub record StoredParts : Type 0 where
  pub notes : List ℕ
  pub losses : List ℕ
  pub isotopes : List ℕ
  pub items : List ℕ
  pub units : List ℕ
  pub text : List ℕ

abbrev pub stored_parts_at : List ℕ → Cursors → StoredParts
stored_parts_at table c =
    record {
      notes = drop c.annotations table;
      losses = drop c.losses table;
      isotopes = drop c.isotopes table;
      items = drop c.items table;
      units = drop c.units table;
      text = drop c.text table;
    }

-- the edition that the header names; the first where it names none
abbrev pub edition_in : List ℕ → Edition
edition_in table = named_edition (u16_at (drop edition_at table))

-- how many there are in each section, as the header tells
abbrev pub counts_at : List ℕ → Counts
counts_at table =
    record {
      annotations = u16_at (drop annotation_pair_at table);
      losses = u16_at (drop loss_pair_at table);
      isotopes = u16_at (drop isotope_pair_at table);
      items = u16_at (drop item_pair_at table);
      units = u16_at (drop unit_pair_at table);
      text = u16_at (drop text_pair_at table);
    }
