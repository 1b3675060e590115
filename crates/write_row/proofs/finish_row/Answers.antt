-- `write_row::finish_row` meets its contract. Assumes nothing.
use mathlib.Core.Path.{sym, ◌∙◌}
use Rattle.write_row.proofs.Steps.{finished_empty, finished_line, finished_eight, finished_refused}
use Rattle.write_row.proofs.finish_row.Goals as goal

pub returns-in-Ok-eq0 : goal.returns-in-Ok-eq0
returns-in-Ok-eq0 c = finished_empty c.args.out.now c.args.to c.in-Ok-eq0.is (sym c.in-Ok-eq0.field-0-is ∙ c.in-Ok-eq0.field-0-test) c.end_bare.ensures

pub returns-in-Ok : goal.returns-in-Ok
returns-in-Ok c = let t = rw c.in-Ok.is at c.in-Ok.len-test in finished_line c.args.out.now c.args.to c.in-Ok.is t.1 c.end_labelled.ensures

pub returns-in-OutputTooShort : goal.returns-in-OutputTooShort
returns-in-OutputTooShort c =
    finished_eight c.args.out.now c.args.to c.in-Err.is c.clear.ensures c.in-OutputTooShort.is c.plus.ensures c.plus-in-OutputTooShort.ensures c.refuse.ensures

pub returns-in_default : goal.returns-in_default
returns-in_default c = finished_refused c.args.out.now c.args.to c.in-Err.is c.clear.ensures c.in_default.not-OutputTooShort
