-- `capi::mzpaf_convert_with` meets its contract: the model's answer, packed. Assumes nothing.
use Rattle.pack_answer.proofs.Packs.{handed_on}
use Rattle.capi.proofs.mzpaf_convert_with.Goals as goal

pub returns : goal.returns
returns c = handed_on _ c.convert_by-a.auto.out c.convert_by-a.ensures c.hand_over.ensures
