-- `read_opening::text_in_braces` meets its contract: no brace, or the text's bytes behind it. Assumes nothing.
use borrow.Author.Tests.{not-true, not-false}
use mathlib.Core.Path.{sym, ◌∙◌}
use Rattle.read_opening.specs.Enclosed.{text_of}
use Rattle.read_opening.proofs.text_in_braces.Goals as goal

pub returns-then-not-begins_with : goal.returns-then-not-begins_with
unfolding text_of
returns-then-not-begins_with c = rw (sym c.begins_with.ensures ∙ not-true _ c.if-not-begins_with.true-raw)

pub returns : goal.returns
unfolding text_of
returns c = rw (sym c.begins_with.ensures ∙ not-false _ c.if-not-begins_with.false-raw, ← c.rest.ensures, ← c.text_len.ensures) c.close_text.ensures
