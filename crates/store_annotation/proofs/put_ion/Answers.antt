-- `store_annotation::put_ion` meets its contract: units, then text. Assumes nothing.
use Rattle.rules.specs.Layout.{unit_section, text_section}
use Rattle.store_annotation.proofs.Steps.{ion_events_lem}
use Rattle.sort_changes.proofs.Steps.{ran_at}
use Rattle.store_sections.proofs.Events.{ran_then, ran_as}
use Rattle.store_annotation.proofs.put_ion.Goals as goal

pub returns : goal.returns
returns c = ran_as (ran_then (ran_at unit_section c.cursor.ensures c.put_records-u.ensures c.with_cursor-d.ensures) (ran_at text_section c.cursor-2.ensures c.put_run-v.ensures c.with_cursor.ensures)) (ion_events_lem _ _ c.rest-t.ensures c.part.ensures)
