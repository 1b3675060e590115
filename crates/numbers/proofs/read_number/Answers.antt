-- `numbers::read_number` meets its contract: `digits_from` with a bound that fits the smaller type. Assumes nothing.
use Rattle.numbers.specs.Leading.{leading_of, number_of}
use Rattle.numbers.specs.declared.Digits.{Digits}
use mathlib.Core.Path.{ap}
use native.Mathlib.Omega.{arith}
use Rattle.numbers.proofs.read_number.Goals as goal

pub overflow_cast-result : goal.overflow_cast-result
unfolding leading_of
overflow_cast-result c = omega (arith, ap (λ (d : Digits). d.value) c.digits_from-d.ensures)

pub returns : goal.returns
unfolding leading_of number_of
returns c = ap (λ (d : Digits). record { value = d.value; len = d.len }) c.digits_from-d.ensures
