-- `read_annotation::read_adduct` meets its contract: none, or what was read of the items behind `[M`. Assumes nothing.
use Rattle.read_annotation.specs.Parts.{adduct_of}
use mathlib.Core.Path.{sym, ◌∙◌}
use borrow.Author.Tests.{not-true, not-false}
use Rattle.read_annotation.proofs.read_adduct.Goals as goal

pub returns-then-not-begins_adduct : goal.returns-then-not-begins_adduct
unfolding adduct_of
returns-then-not-begins_adduct c = rw (sym c.begins_adduct.ensures ∙ not-true _ c.if-not-begins_adduct.true-raw)

pub returns : goal.returns
unfolding adduct_of
returns c = rw (sym c.begins_adduct.ensures ∙ not-false _ c.if-not-begins_adduct.false-raw, c.adduct_len.ensures, c.read_changes-x.ensures, c.rest.ensures)
