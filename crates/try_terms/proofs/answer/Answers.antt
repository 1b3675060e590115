-- `try_terms::answer` meets its contract. Assumes nothing.
use borrow.Author.Rules.{rules}
use Rattle.put_bytes.proofs.Putting.{put_as}
use Rattle.try_terms.proofs.Saying.{line_short, line_number, line_decimal, line_symbol, line_formula, line_other}
use Rattle.try_terms.proofs.answer.Goals as goal

pub returns-then-line-lt2 : goal.returns-then-line-lt2
returns-then-line-lt2 c = put_as c.put8.ensures (line_short c.args.line.now c.if-line-lt2.true)

pub returns-in-110 : goal.returns-in-110
returns-in-110 c = put_as c.say_number.ensures (line_number c.args.line.now c.if-line-lt2.false c.rest-text.ensures c.in-110.is)

pub returns-in-100 : goal.returns-in-100
returns-in-100 c = put_as c.say_decimal.ensures (line_decimal c.args.line.now c.if-line-lt2.false c.rest-text.ensures c.in-100.is)

pub returns-in-115 : goal.returns-in-115
returns-in-115 c = put_as c.say_symbol.ensures (line_symbol c.args.line.now c.if-line-lt2.false c.rest-text.ensures c.in-115.is)

pub returns-in-102 : goal.returns-in-102
returns-in-102 c = put_as c.say_formula.ensures (line_formula c.args.line.now c.if-line-lt2.false c.rest-text.ensures c.in-102.is)

pub returns-in_default : goal.returns-in_default
returns-in_default c =
    put_as c.put8-in_default.ensures (line_other c.args.line.now c.if-line-lt2.false (search rules) (search rules) (search rules) (search rules))
