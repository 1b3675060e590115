-- `run_writes::answer_as` meets its contract: by what is to be done. Assumes nothing.
use Rattle.run_writes.proofs.Answering.{as_line, as_row, as_table}
use borrow.Author.Rules.{rules}
use Rattle.run_writes.proofs.answer_as.Goals as goal

pub returns-in-WriteTable : goal.returns-in-WriteTable
returns-in-WriteTable c = search (rules, as_line)

pub returns-in-WriteRow : goal.returns-in-WriteRow
returns-in-WriteRow c = search (rules, as_row)

pub returns-in-ConvertTable : goal.returns-in-ConvertTable
returns-in-ConvertTable c = search (rules, as_table)
