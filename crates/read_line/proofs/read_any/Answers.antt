-- `read_line::read_any` meets its contract: by the verdict. Assumes nothing.
use mathlib.Core.Path.{sym, ◌∙◌}
use Rattle.read_line.proofs.Answered.{any_fine, any_short, any_stray}
use Rattle.read_line.proofs.read_any.Goals as goal

pub returns-in-Fine : goal.returns-in-Fine
returns-in-Fine c = any_fine _ _ _ (sym c.scan_by.ensures ∙ c.in-Fine.is) c.read_spelled.ensures

pub returns-in-Short : goal.returns-in-Short
returns-in-Short c = any_short _ _ _ (sym c.scan_by.ensures ∙ c.in-Short.is) c.refuse.ensures

pub returns-in-Stray : goal.returns-in-Stray
returns-in-Stray c = any_stray _ _ _ (sym c.scan_by.ensures ∙ c.in-Stray.is) c.refuse-in-Stray.ensures
