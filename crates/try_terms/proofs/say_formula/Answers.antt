-- `try_terms::say_formula` meets its contract. Assumes nothing.
use mathlib.Core.Path.{ap}
use Rattle.put_bytes.proofs.Putting.{put_then, put_as}
use Rattle.read_formula.specs.declared.FormulaRead.{FormulaRead}
use Rattle.try_terms.specs.Lines.{units_text}
use Rattle.try_terms.proofs.say_formula.Goals as goal

pub returns : goal.returns
returns c =
    put_as (put_then c.put_field-p.ensures (put_then c.put_field-q.ensures (put_then c.say_refusal-r.ensures c.put_preferred.ensures)))
    (ap (λ (f : FormulaRead). units_text f c.args.text.now) c.formula-f.ensures)
