-- What is printed of records is the preferred text of what was stored: the laws for whoever prints a table. Assumes nothing.
pub use Rattle.slices.proofs.StoredNumbers.{word_stored, quad_stored, oct_stored}
pub use Rattle.print_parts.proofs.Rows.{unit_rows, Printed}
pub use Rattle.print_parts.proofs.Stored.{LossOk, ItemOk, losses_printed, items_printed}
pub use Rattle.print_parts.proofs.Isotopes.{IsotopesOk, isotopes_printed_lem}
pub use Rattle.print_parts.proofs.Tails.{TailOk, tail_printed_lem}
pub use Rattle.print_parts.proofs.Sound.{loss_ok, item_ok, isotopes_ok, tail_ok}
