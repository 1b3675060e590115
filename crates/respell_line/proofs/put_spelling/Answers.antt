-- `respell_line::put_spelling` meets its contract. Assumes nothing.
use Rattle.respell_line.proofs.SpellsLine.{copied, anew}
use Rattle.respell_line.proofs.put_spelling.Goals as goal

pub returns-then-is_plain : goal.returns-then-is_plain
returns-then-is_plain c = copied _ _ _ c.is_plain.ensures c.if-is_plain.true c.put_run.ensures

pub returns-else-is_plain : goal.returns-else-is_plain
returns-else-is_plain c = anew _ _ _ c.is_plain.ensures c.if-is_plain.false c.spell_line.ensures
