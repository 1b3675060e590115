-- `respell_annotation::spell_ion` meets its contract: as it stands, or its units anew. Assumes nothing.
use mathlib.Core.Path.{sym, ◌∙◌}
use Rattle.respell_annotation.proofs.Steps.{ion_without, ion_alone, ion_formula}
use Rattle.respell_annotation.proofs.spell_ion.Goals as goal

pub returns-then-spells_yb : goal.returns-then-spells_yb
returns-then-spells_yb c =
    ion_without _ _ (sym c.spells_yb.ensures ∙ c.if-spells_yb.true) c.put8-m.ensures c.first_of.ensures c.rest.ensures
    c.put_run.ensures

pub returns-then-x-eq0 : goal.returns-then-x-eq0
returns-then-x-eq0 c =
    ion_alone _ _ (sym c.spells_yb.ensures ∙ c.if-spells_yb.false) c.if-x-eq0.true c.first_of-then-x-eq0.ensures
    c.put_run-then-x-eq0.ensures

pub returns-else-x-eq0 : goal.returns-else-x-eq0
returns-else-x-eq0 c =
    ion_formula _ _ (sym c.spells_yb.ensures ∙ c.if-spells_yb.false) c.if-x-eq0.false c.first_of-else-x-eq0.ensures
    c.put_run-a.ensures c.rest-else-x-eq0.ensures
    c.put_preferred-b.ensures c.put8.ensures
