-- `try_terms::say_refusal` meets its contract: its two numbers, or two zeros. Assumes nothing.
use mathlib.Core.Path.{sym, ap, ap₂, ◌∙◌}
use Rattle.put_bytes.proofs.Putting.{put_then, put_as}
use Rattle.io_answers.specs.Tells.{field}
use Rattle.try_terms.specs.Lines.{refusal_text}
use Rattle.try_terms.proofs.say_refusal.Goals as goal

pub returns-in-Some : goal.returns-in-Some
returns-in-Some c = put_as (put_then c.put_field-p.ensures c.put_field.ensures) (rw (c.in-Some.is, c.number.ensures))

pub returns-in-None : goal.returns-in-None
returns-in-None c = put_as (put_then c.put_field-p-in-None.ensures c.put_field-in-None.ensures) (rw c.in-None.is)
