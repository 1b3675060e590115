-- What stands behind the sign and the count of a loss or an adduct item. Assumes nothing.
use Rattle.std.specs.Prelude.{ℕ}
use Rattle.changes.specs.declared.Content.{Content}
use Rattle.changes.specs.declared.Content.TheVariants.{Formula, Name, Electron}

-- its kind, as it is stored
abbrev pub content_number : Content → ℕ
content_number (Formula units) = 0
content_number (Name bytes) = 1
content_number Electron = 2

-- how many units, or name bytes
abbrev pub content_size : Content → ℕ
content_size (Formula units) = units
content_size (Name bytes) = bytes
content_size Electron = 0

-- how many units
abbrev pub content_units : Content → ℕ
content_units (Formula units) = units
content_units (Name bytes) = 0
content_units Electron = 0

-- how many name bytes
abbrev pub content_bytes : Content → ℕ
content_bytes (Formula units) = 0
content_bytes (Name bytes) = bytes
content_bytes Electron = 0
