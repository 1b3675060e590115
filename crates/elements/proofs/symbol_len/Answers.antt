-- `elements::symbol_len` meets its contract: nothing left, no capital, then one letter or two. Assumes nothing.
use mathlib.Core.Path.{sym, ◌∙◌}
use borrow.Author.Tests.{not-true, not-false}
use Rattle.elements.proofs.Begins.{letters_none, letters_other, letters_one, letters_two}
use Rattle.elements.proofs.symbol_len.Goals as goal

pub returns-then-s-lt1 : goal.returns-then-s-lt1
returns-then-s-lt1 c = letters_none c.args.s.now c.if-s-lt1.true

pub returns-then-not-is_capital : goal.returns-then-not-is_capital
returns-then-not-is_capital c = letters_other c.args.s.now c.if-s-lt1.false (sym c.is_capital.ensures ∙ not-true _ c.if-not-is_capital.true-raw)

pub returns-then-second_letter-eq0 : goal.returns-then-second_letter-eq0
returns-then-second_letter-eq0 c = letters_one c.args.s.now c.if-s-lt1.false (sym c.is_capital.ensures ∙ not-false _ c.if-not-is_capital.false-raw) c.second_letter.ensures c.if-second_letter-eq0.true

pub returns : goal.returns
returns c = letters_two c.args.s.now c.if-s-lt1.false (sym c.is_capital.ensures ∙ not-false _ c.if-not-is_capital.false-raw) c.second_letter.ensures c.if-second_letter-eq0.false
