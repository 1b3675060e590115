-- `shapes::put_verdict` meets its contract. Assumes nothing.
use Rattle.shapes.proofs.Showing.{verdict_as, short_as}
use mathlib.Core.Path.{sym}
use Rattle.shapes.proofs.put_verdict.Goals as goal

pub returns-in-Fine : goal.returns-in-Fine
returns-in-Fine c = verdict_as (sym c.in-Fine.is) (λ line h. c.put_run.ensures)

pub returns-in-Short : goal.returns-in-Short
returns-in-Short c = verdict_as (sym c.in-Short.is) (short_as c.put_place.ensures)

pub returns-in-Stray : goal.returns-in-Stray
returns-in-Stray c = verdict_as (sym c.in-Stray.is) (λ line h. c.put_place-in-Stray.ensures)
