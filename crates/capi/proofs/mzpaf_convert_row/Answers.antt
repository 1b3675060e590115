-- `capi::mzpaf_convert_row` meets its contract: two bytes hold each number of its answer. Assumes nothing.
use Rattle.pack_answer.proofs.Packs.{hands}
use Rattle.capi.proofs.FittingRows.{converts_row_fit}
use Rattle.capi.proofs.mzpaf_convert_row.Goals as goal

pub returns : goal.returns
returns c = hands _ c.convert_row-a.ensures (converts_row_fit c.convert_row-a.ensures) c.convert_row-a.auto.out c.hand_over.ensures
