-- `put_formula::put_labelled` meets its contract: five puts in a row, from bracket to bracket. Assumes nothing.
use Rattle.put_formula.specs.Preferred.{labelled_text}
use Rattle.put_bytes.proofs.Putting.{put_then}
use Rattle.put_formula.proofs.put_labelled.Goals as goal

pub returns : goal.returns
unfolding labelled_text
returns c = put_then c.put8-a.ensures (put_then (put_then c.put_number-b.ensures (put_then c.put_symbol-c.ensures c.put_number-d.ensures)) c.put8.ensures)
