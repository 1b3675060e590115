-- `put_formula::put_symbol` meets its contract: no symbol, one letter, or two. Assumes nothing.
use Rattle.put_formula.proofs.TextParts.{symbol_none, symbol_one, symbol_two}
use Rattle.put_bytes.proofs.Putting.{put_none, put_then, put_as}
use native.Mathlib.Omega.{arith}
use Rattle.put_formula.proofs.put_symbol.Goals as goal

pub returns-in-0-default : goal.returns-in-0-default
returns-in-0-default c = put_as (put_none (omega arith) (omega arith)) (symbol_none _ c.letters_of-l.ensures c.in-0-default.is-0)

pub returns-in_default-eq0 : goal.returns-in_default-eq0
returns-in_default-eq0 c = put_as c.put8.ensures (symbol_one _ c.letters_of-l.ensures c.in_default-eq0.is-0.1 c.in_default-eq0.is-1)

pub returns-in_default : goal.returns-in_default
returns-in_default c = put_as (put_then c.put8-p.ensures c.put8-in_default.ensures) (symbol_two _ c.letters_of-l.ensures c.in_default.is-0.1 (λ e. omega (arith, e)))
