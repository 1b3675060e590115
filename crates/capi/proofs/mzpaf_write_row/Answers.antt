-- `capi::mzpaf_write_row` meets its contract: two bytes hold each number of its answer. Assumes nothing.
use Rattle.pack_answer.proofs.Packs.{hands}
use Rattle.capi.proofs.FittingRows.{writes_row_fit}
use Rattle.capi.proofs.mzpaf_write_row.Goals as goal

pub returns : goal.returns
returns c = hands _ c.write_row-a.ensures (writes_row_fit c.write_row-a.ensures) c.write_row-a.auto.out c.hand_over.ensures
