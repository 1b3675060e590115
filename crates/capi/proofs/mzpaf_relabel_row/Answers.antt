-- `capi::mzpaf_relabel_row` meets its contract: two bytes hold each number of its answer. Assumes nothing.
use Rattle.pack_answer.proofs.Packs.{hands}
use Rattle.capi.proofs.FittingRows.{relabels_row_fit}
use Rattle.capi.proofs.mzpaf_relabel_row.Goals as goal

pub returns : goal.returns
returns c = hands _ c.relabel_row-a.ensures (relabels_row_fit c.relabel_row-a.ensures) c.relabel_row-a.auto.out c.hand_over.ensures
