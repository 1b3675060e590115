-- `respell_line::relabel_spelled` meets its contract. Assumes nothing.
use Rattle.respell_line.proofs.Relabelled.{refused_over, given_over}
use Rattle.answers.proofs.Lines.{line_closed}
use mathlib.Core.Path.{◌∙◌}
use Rattle.respell_line.proofs.relabel_spelled.Goals as goal

pub returns-in-Some : goal.returns-in-Some
returns-in-Some c = refused_over _ _ c.read_at-first.ensures c.total-t.ensures c.first_refusal.ensures c.in-Some.is c.clear.ensures

pub returns : goal.returns
returns c = given_over _ _ c.read_at-first.ensures c.total-t.ensures c.first_refusal.ensures c.in_default.is (c.close_line.ensures ∙ line_closed c.put_spelling-n.ensures)
