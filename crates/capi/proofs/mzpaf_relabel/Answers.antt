-- `capi::mzpaf_relabel` meets its contract: two bytes hold each number of its answer. Assumes nothing.
use Rattle.pack_answer.proofs.Packs.{hands}
use Rattle.capi.proofs.Fitting.{relabels_fit}
use Rattle.capi.proofs.mzpaf_relabel.Goals as goal

pub returns : goal.returns
returns c = hands _ c.relabel_line-a.ensures (relabels_fit c.relabel_line-a.ensures) c.relabel_line-a.auto.out c.hand_over.ensures
