-- `capi::mzpaf_convert` meets its contract: two bytes hold each number of its answer. Assumes nothing.
use Rattle.pack_answer.proofs.Packs.{hands}
use Rattle.capi.proofs.Fitting.{converts_fit}
use Rattle.capi.proofs.mzpaf_convert.Goals as goal

pub returns : goal.returns
returns c = hands _ c.convert-a.ensures (converts_fit c.convert-a.ensures) c.convert-a.auto.out c.hand_over.ensures
