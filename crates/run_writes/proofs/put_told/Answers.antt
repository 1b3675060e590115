-- `run_writes::put_told` meets its contract: by the form. Assumes nothing.
use Rattle.run_writes.proofs.Answering.{in_fields, in_digits}
use borrow.Author.Rules.{rules}
use Rattle.run_writes.proofs.put_told.Goals as goal

pub returns-in-Fields : goal.returns-in-Fields
returns-in-Fields c = search (rules, in_fields)

pub returns-in-Digits : goal.returns-in-Digits
returns-in-Digits c = search (rules, in_digits)
