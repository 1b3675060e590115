-- `try_terms::say_decimal` meets its contract. Assumes nothing.
use mathlib.Core.Path.{ap}
use Rattle.try_terms.proofs.Saying.{decimal_fits, decimal_past}
use Rattle.io_answers.specs.Tells.{field}
use Rattle.put_bytes.proofs.Putting.{put_then, put_as}
use Rattle.try_terms.proofs.say_decimal.Goals as goal

pub returns-in-Some : goal.returns-in-Some
returns-in-Some c =
    put_as (put_then c.put_field-p.ensures (put_then (put_as c.put_field-q.ensures (ap field c.value.ensures))
    (put_then (put_as c.put_field-r.ensures (ap field c.places.ensures)) c.put_decimal.ensures)))
    (decimal_fits _ c.args.text.now c.read_decimal-d.ensures c.in-Some.is)

pub returns-in-None : goal.returns-in-None
returns-in-None c = put_as (put_then c.put_field-p.ensures c.put_run.ensures) (decimal_past _ c.args.text.now c.read_decimal-d.ensures c.in-None.is)
