-- `store_annotation::store_adduct` meets its contract: none, or the items behind `[M`. Assumes nothing.
use Rattle.store_annotation.proofs.Steps.{adduct_none, adduct_some}
use borrow.Author.Tests.{not-true, not-false}
use native.Mathlib.Omega.{arith}
use mathlib.Core.Path.{sym, ◌∙◌}
use Rattle.store_annotation.proofs.store_adduct.Goals as goal

pub returns-then-not-begins_adduct : goal.returns-then-not-begins_adduct
returns-then-not-begins_adduct c = adduct_none (omega arith) (sym c.begins_adduct.ensures ∙ not-true _ c.if-not-begins_adduct.true-raw)

pub returns : goal.returns
returns c = adduct_some (sym c.begins_adduct.ensures ∙ not-false _ c.if-not-begins_adduct.false-raw) c.rest.ensures c.store_changes-x.ensures
