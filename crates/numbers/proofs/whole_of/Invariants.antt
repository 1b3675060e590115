-- `numbers::whole_of` meets its contract: after i turns of its loop it has v without its last i digits. Assumes nothing.
use Rattle.rules.specs.Decimals.{whole}
use mathlib.Core.Path.{◌≡◌}
use Rattle.numbers.proofs.whole_of.Given as goal

abbrev pub invariant-loop : goal.invariant-loop
invariant-loop l = l.rest ≡ whole l.counter l.v
