-- `write_row::put_columns` meets its contract. Assumes nothing.
use Rattle.put_bytes.proofs.Putting.{put_then}
use Rattle.write_row.specs.Writings.{columns_text}
use Rattle.write_row.proofs.put_columns.Goals as goal

pub returns : goal.returns
unfolding columns_text
returns c = put_then c.put_decimal-tab.ensures (put_then c.put8-to.ensures c.put_decimal.ensures)
