-- `lines::relabel_by` meets its contract. Assumes nothing.
use Rattle.lines.proofs.Relabelled.{long_of, fine_of, short_of, stray_of}
use mathlib.Core.Path.{sym, ◌∙◌}
use Rattle.lines.proofs.relabel_by.Goals as goal

pub returns-then-line-gt-MAX_LINE : goal.returns-then-line-gt-MAX_LINE
returns-then-line-gt-MAX_LINE c = long_of _ _ _ c.if-line-gt-MAX_LINE.true c.clear.ensures c.refuse.ensures

pub returns-in-Fine : goal.returns-in-Fine
returns-in-Fine c = fine_of _ _ c.if-line-gt-MAX_LINE.false (sym c.scan_by.ensures ∙ c.in-Fine.is) c.relabel_spelled.ensures

pub returns-in-Short : goal.returns-in-Short
returns-in-Short c = short_of _ _ c.if-line-gt-MAX_LINE.false (sym c.scan_by.ensures ∙ c.in-Short.is) c.clear-in-Short.ensures c.refuse-in-Short.ensures

pub returns-in-Stray : goal.returns-in-Stray
returns-in-Stray c = stray_of _ _ c.if-line-gt-MAX_LINE.false (sym c.scan_by.ensures ∙ c.in-Stray.is) c.clear-in-Stray.ensures c.refuse-in-Stray.ensures
