-- `read_opening::name_in_brackets` meets its contract: no bracket, or the name's bytes behind it. Assumes nothing.
use borrow.Author.Tests.{not-true, not-false}
use mathlib.Core.Path.{sym, ◌∙◌}
use Rattle.read_opening.specs.Enclosed.{name_of}
use Rattle.read_opening.proofs.name_in_brackets.Goals as goal

pub returns-then-not-begins_with : goal.returns-then-not-begins_with
unfolding name_of
returns-then-not-begins_with c = rw (sym c.begins_with.ensures ∙ not-true _ c.if-not-begins_with.true-raw)

pub returns : goal.returns
unfolding name_of
returns c = rw (sym c.begins_with.ensures ∙ not-false _ c.if-not-begins_with.false-raw, ← c.rest.ensures, ← c.name_len.ensures) c.close_text.ensures
