-- `answers::write_line` meets its contract: the line is put, and the output closed. Assumes nothing.
use mathlib.Core.Path.{◌∙◌}
use Rattle.answers.proofs.Lines.{line_closed}
use Rattle.answers.proofs.write_line.Goals as goal

pub returns : goal.returns
returns c = c.close_line.ensures ∙ line_closed c.put_run-n.ensures
