-- `capi::mzpaf_write_row_with` meets its contract: the model's answer, packed. Assumes nothing.
use Rattle.pack_answer.proofs.Packs.{handed_on}
use Rattle.capi.proofs.mzpaf_write_row_with.Goals as goal

pub returns : goal.returns
returns c = handed_on _ c.write_row_by-a.auto.out c.write_row_by-a.ensures c.hand_over.ensures
