-- `print_parts::content_of` meets its contract: by the kind of the record. Assumes nothing.
use native.Mathlib.Omega.{arith}
use Rattle.print_parts.proofs.Tests.{content_formula, content_name, content_electron}
use Rattle.print_parts.proofs.content_of.Goals as goal

pub returns-in-0 : goal.returns-in-0
returns-in-0 c = content_formula c.args.l.now c.byte_of.ensures c.in-0.is c.number_at.ensures

pub returns-in-1 : goal.returns-in-1
returns-in-1 c = content_name c.args.l.now c.byte_of.ensures c.in-1.is c.number_at-in-1.ensures

pub returns-in_default : goal.returns-in_default
returns-in_default c = content_electron c.args.l.now c.byte_of.ensures (λ e. omega (arith, e)) (λ e. omega (arith, e))
