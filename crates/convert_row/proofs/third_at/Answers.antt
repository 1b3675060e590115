-- `convert_row::third_at` meets its contract. Assumes nothing.
use Rattle.convert_row.proofs.Steps.{third_put}
use Rattle.convert_row.proofs.third_at.Goals as goal

pub returns : goal.returns
returns c = third_put c.args.mz c.args.intensity c.put_columns.ensures c.plus.ensures
