-- `read_ion::series` meets its contract: rewritten by its calls for letters, number, limit and text. Assumes nothing.
use Rattle.read_ion.specs.Kinds.{series_of}
use Rattle.read_ion.proofs.series.Goals as goal

pub returns : goal.returns
unfolding series_of
returns c = rw (c.with_text.ensures, c.unwrap_or.ensures, c.text_in_braces-x.ensures, c.rest-2.ensures, c.advance-at.ensures, c.check_number-g.ensures, c.minus_or_zero-2.ensures, c.minus_or_zero.ensures, c.read_number-n.ensures, c.rest.ensures, c.series_name-l.ensures)
