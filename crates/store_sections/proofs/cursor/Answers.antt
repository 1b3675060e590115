-- `store_sections::cursor` meets its contract: six arms computed, and no section past them. Assumes nothing.
use native.Mathlib.Omega.{arith}
use Rattle.store_sections.proofs.Others.{at_none}
use Rattle.store_sections.proofs.cursor.Goals as goal

pub returns-in_default : goal.returns-in_default
returns-in_default c = at_none c.args.j c.args.c (omega arith)
