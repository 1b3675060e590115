-- `run_reads::read_as` meets its contract: by what the lines are. Assumes nothing.
use Rattle.run_reads.proofs.Reading.{read_lines, read_rows}
use borrow.Author.Rules.{rules}
use Rattle.run_reads.proofs.read_as.Goals as goal

pub returns-in-Lines : goal.returns-in-Lines
returns-in-Lines c = search (rules, read_lines)

pub returns-in-Rows : goal.returns-in-Rows
returns-in-Rows c = search (rules, read_rows)
