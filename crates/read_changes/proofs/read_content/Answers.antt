-- `read_changes::read_content` meets its contract: a formula, a name or an electron, by what stands first. Assumes nothing.
use mathlib.Core.Path.{sym, ◌∙◌}
use Rattle.read_changes.specs.Changes.{content_of}
use Rattle.read_changes.proofs.read_content.Goals as goal

pub returns-then-begins_unit : goal.returns-then-begins_unit
unfolding content_of
returns-then-begins_unit c = rw (← c.rest-t.ensures, sym c.begins_unit.ensures ∙ c.if-begins_unit.true, ← c.formula-x.ensures) c.with_head.ensures

pub returns-then-begins_with : goal.returns-then-begins_with
unfolding content_of
returns-then-begins_with c = rw (← c.rest-t.ensures, sym c.begins_unit.ensures ∙ c.if-begins_unit.false, sym c.begins_with.ensures ∙ c.if-begins_with.true, ← c.name_in_brackets-x.ensures) c.with_head-then-begins_with.ensures

pub returns : goal.returns
unfolding content_of
returns c = rw (← c.rest-t.ensures, sym c.begins_unit.ensures ∙ c.if-begins_unit.false, sym c.begins_with.ensures ∙ c.if-begins_with.false) c.with_head-2.ensures
