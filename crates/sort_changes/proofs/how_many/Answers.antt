-- `sort_changes::how_many` meets its contract: none, or by whether another stands behind the first. Assumes nothing.
use borrow.Author.Rules.{rules}
use mathlib.Core.Path.{sym, ◌∙◌}
use Rattle.sort_changes.proofs.Alone.{behind}
use Rattle.sort_changes.proofs.how_many.Goals as goal

pub returns-then-begins_change : goal.returns-then-begins_change
returns-then-begins_change c =
    record {
      here = search rules;
      next = behind _ c.first_of-x.ensures c.rest.ensures (sym c.begins_change-2.ensures ∙ c.if-begins_change.true);
    }

pub returns-else-begins_change : goal.returns-else-begins_change
returns-else-begins_change c =
    record {
      here = search rules;
      last = behind _ c.first_of-x.ensures c.rest.ensures (sym c.begins_change-2.ensures ∙ c.if-begins_change.false);
      is = c.first_of-x.ensures;
    }
