-- `scan_line::takes_letters` meets its contract: too few bytes have no such cell, else it decides. Assumes nothing.
use mathlib.Core.Path.{◌∙◌}
use borrow.Author.Tests.{le-ltb}
use Rattle.shape.specs.Tables.{x_at}
use Rattle.scan_line.proofs.Letters.{letters_short, letters_told}
use Rattle.scan_line.proofs.takes_letters.Goals as goal

pub returns-then-machine-gt-X_AT : goal.returns-then-machine-gt-X_AT
returns-then-machine-gt-X_AT c = letters_told _ c.if-machine-gt-X_AT.true

pub returns-else-machine-gt-X_AT : goal.returns-else-machine-gt-X_AT
returns-else-machine-gt-X_AT c = le-ltb x_at _ c.if-machine-gt-X_AT.false ∙ letters_short _ c.if-machine-gt-X_AT.false
