-- `read_ion::immonium` meets its contract: with a modification, or without. Assumes nothing.
use Rattle.read_ion.specs.Kinds.{immonium_of}
use Rattle.read_ion.proofs.immonium.Goals as goal

pub returns-then-opens_modification : goal.returns-then-opens_modification
unfolding immonium_of
returns-then-opens_modification c = rw (← c.advance-at.ensures, ← c.rest-t.ensures, ← c.opens_modification.ensures, c.if-opens_modification.true, c.with_text.ensures, c.name_in_brackets-x.ensures, c.byte_of-letter.ensures)

pub returns : goal.returns
unfolding immonium_of
returns c = rw (← c.advance-at.ensures, ← c.rest-t.ensures, ← c.opens_modification.ensures, c.if-opens_modification.false, c.byte_of-letter.ensures)
