-- `respell_annotation::spell_adduct` meets its contract: none, or the items behind `[M`. Assumes nothing.
use mathlib.Core.Path.{sym, ◌∙◌}
use native.Mathlib.Omega.{arith}
use Rattle.respell_annotation.proofs.Steps.{adduct_none, adduct_some}
use Rattle.respell_annotation.proofs.spell_adduct.Goals as goal

pub returns-then-begins_adduct : goal.returns-then-begins_adduct
returns-then-begins_adduct c =
    adduct_some _ (sym c.begins_adduct.ensures ∙ c.if-begins_adduct.true) c.first_of.ensures c.put_run-a.ensures
    c.rest.ensures c.spell_changes-x.ensures c.put8.ensures

pub returns-else-begins_adduct : goal.returns-else-begins_adduct
returns-else-begins_adduct c = adduct_none _ (omega arith) (omega arith) (sym c.begins_adduct.ensures ∙ c.if-begins_adduct.false)
