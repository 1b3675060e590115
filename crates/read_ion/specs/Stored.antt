-- The kinds of ion, as they are stored. Assumes nothing.
use Rattle.std.specs.Prelude.{ℕ}
use Rattle.read_ion.specs.declared.IonKind.{IonKind}
use Rattle.read_ion.specs.declared.IonKind.TheVariants.{Series, Internal, Immonium, Precursor, Reference, Named, Composed, Smiles, Unknown}

abbrev pub kind_number : IonKind → ℕ
kind_number Series = 1
kind_number Internal = 2
kind_number Immonium = 3
kind_number Precursor = 4
kind_number Reference = 5
kind_number Named = 6
kind_number Composed = 7
kind_number Smiles = 8
kind_number Unknown = 9
