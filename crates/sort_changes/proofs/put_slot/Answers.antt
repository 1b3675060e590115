-- `sort_changes::put_slot` meets its contract: its record, and its units or its name, each put at a cursor. Assumes nothing.
use Rattle.rules.specs.Layout.{unit_section, text_section}
use Rattle.store_sections.proofs.Events.{ran_as, ran_then}
use Rattle.sort_changes.proofs.Steps.{ran_at, slot_units, slot_name, slot_bare}
use Rattle.sort_changes.proofs.put_slot.Goals as goal

pub returns-in-Formula : goal.returns-in-Formula
returns-in-Formula c = ran_as (ran_then (ran_at _ c.cursor.ensures c.put_slot_record-a.ensures c.with_cursor-d.ensures) (ran_at unit_section c.cursor-in-Formula.ensures c.put_records-b.ensures c.with_cursor.ensures)) (slot_units _ _ _ c.in-Formula.is c.rest.ensures)

pub returns-in-Name : goal.returns-in-Name
returns-in-Name c = ran_as (ran_then (ran_at _ c.cursor.ensures c.put_slot_record-a.ensures c.with_cursor-d.ensures) (ran_at text_section c.cursor-in-Name.ensures c.put_run-b.ensures c.with_cursor-in-Name.ensures)) (slot_name _ _ _ c.in-Name.is c.rest-in-Name.ensures c.part.ensures)

pub returns-in-Electron : goal.returns-in-Electron
returns-in-Electron c = ran_as (ran_at _ c.cursor.ensures c.put_slot_record-a.ensures c.with_cursor-d.ensures) (slot_bare _ _ _ c.in-Electron.is)
