-- `capi::mzpaf_read` meets its contract: two bytes hold each number of its answer. Assumes nothing.
use Rattle.pack_answer.proofs.Packs.{hands}
use Rattle.capi.proofs.Fitting.{reads_fit}
use Rattle.capi.proofs.mzpaf_read.Goals as goal

pub returns : goal.returns
returns c = hands _ c.read-a.ensures (reads_fit c.read-a.ensures) c.read-a.auto.out c.hand_over.ensures
