-- `run_relabel::relabel_as` meets its contract: by what the lines are. Assumes nothing.
use Rattle.run_relabel.proofs.Spelling.{relabel_lines, relabel_rows}
use borrow.Author.Rules.{rules}
use Rattle.run_relabel.proofs.relabel_as.Goals as goal

pub returns-in-Lines : goal.returns-in-Lines
returns-in-Lines c = search (rules, relabel_lines)

pub returns-in-Rows : goal.returns-in-Rows
returns-in-Rows c = search (rules, relabel_rows)
