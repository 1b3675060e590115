-- `read_ion::braced` meets its contract: rewritten by its three calls, the text in braces among them. Assumes nothing.
use Rattle.read_ion.specs.Kinds.{braced_of}
use Rattle.read_ion.proofs.braced.Goals as goal

pub returns : goal.returns
unfolding braced_of
returns c = rw (c.with_text.ensures, c.text_in_braces-x.ensures, c.rest.ensures)
