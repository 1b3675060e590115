-- The kind of a deviation or a confidence, as it is stored. Assumes nothing.
use Rattle.std.specs.Prelude.{ℕ}
use Rattle.read_tail.specs.declared.PartKind.{PartKind}
use Rattle.read_tail.specs.declared.PartKind.TheVariants.{Absent, Plain, Ppm}

abbrev pub part_number : PartKind → ℕ
part_number Absent = 0
part_number Plain = 1
part_number Ppm = 2
