-- `capi::mzpaf_read_row` meets its contract: two bytes hold each number of its answer. Assumes nothing.
use Rattle.pack_answer.proofs.Packs.{hands}
use Rattle.capi.proofs.FittingRows.{reads_row_fit}
use Rattle.capi.proofs.mzpaf_read_row.Goals as goal

pub returns : goal.returns
returns c = hands _ c.read_row-a.ensures (reads_row_fit c.read_row-a.ensures) c.read_row-a.auto.out c.hand_over.ensures
