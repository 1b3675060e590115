-- `capi::mzpaf_write` meets its contract: two bytes hold each number of its answer. Assumes nothing.
use Rattle.pack_answer.proofs.Packs.{hands}
use Rattle.capi.proofs.Fitting.{writes_fit}
use Rattle.capi.proofs.mzpaf_write.Goals as goal

pub returns : goal.returns
returns c = hands _ c.write-a.ensures (writes_fit c.write-a.ensures) c.write-a.auto.out c.hand_over.ensures
