-- Sums of counts. Assumes nothing.
use Rattle.std.specs.Prelude.{ℕ, ◌+◌, min}
use Rattle.put_bytes.specs.Puts.{max_place}
use Rattle.counts.specs.declared.Counts.{Counts}

-- a sum, or the largest number where it would not fit
abbrev pub sum : ℕ → ℕ → ℕ
sum a b = min (a + b) max_place

abbrev pub no_counts : Counts
no_counts = record { annotations = 0; losses = 0; isotopes = 0; items = 0; units = 0; text = 0 }

-- the sum of each kind
abbrev pub plus : Counts → Counts → Counts
plus a b =
    record {
      annotations = sum a.annotations b.annotations;
      losses = sum a.losses b.losses;
      isotopes = sum a.isotopes b.isotopes;
      items = sum a.items b.items;
      units = sum a.units b.units;
      text = sum a.text b.text;
    }
