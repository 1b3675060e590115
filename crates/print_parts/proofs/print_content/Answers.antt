-- `print_parts::print_content` meets its contract. Assumes nothing.
use mathlib.Core.Path.{ap}
use Rattle.rules.specs.Texts.{in_brackets}
use Rattle.put_bytes.proofs.Putting.{put_as}
use Rattle.print_parts.proofs.Tests.{content_told}
use Rattle.print_parts.proofs.print_content.Goals as goal

pub returns-in-Formula : goal.returns-in-Formula
returns-in-Formula c = put_as c.print_units.ensures (content_told c.args.l.now c.args.u.now c.args.t.now c.content_of.ensures c.in-Formula.is)

pub returns-in-Name : goal.returns-in-Name
returns-in-Name c =
    put_as (put_as c.put_between.ensures (ap in_brackets c.first_of.ensures))
    (content_told c.args.l.now c.args.u.now c.args.t.now c.content_of.ensures c.in-Name.is)

pub returns-in-Electron : goal.returns-in-Electron
returns-in-Electron c = put_as c.put8.ensures (content_told c.args.l.now c.args.u.now c.args.t.now c.content_of.ensures c.in-Electron.is)
