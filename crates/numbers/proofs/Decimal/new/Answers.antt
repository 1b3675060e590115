-- `numbers::Decimal::new` meets its contract: within both bounds, or past one of them. Assumes nothing.
use native.Mathlib.Omega.{arith}
use mathlib.Core.Path.{sym}
use Rattle.numbers.proofs.Bounds.{made_fits, made_long, made_large}
use Rattle.numbers.proofs.Decimal.new.Goals.{else-places-le-MAX_PLACES-via-then-places-le-MAX_PLACES+else-value-pow, else-places-le-MAX_PLACES-via-else-places-le-MAX_PLACES}
use Rattle.numbers.proofs.Decimal.new.Goals as goal

pub returns-then-value-pow : goal.returns-then-value-pow
returns-then-value-pow c = sym (made_fits _ _ (omega arith) (omega arith))

pub returns-else-places-le-MAX_PLACES : goal.returns-else-places-le-MAX_PLACES
returns-else-places-le-MAX_PLACES c =
    elim c.else-places-le-MAX_PLACES.branch [
      | else-places-le-MAX_PLACES-via-then-places-le-MAX_PLACES+else-value-pow w ↦ sym (made_large _ _ (omega arith))
      | else-places-le-MAX_PLACES-via-else-places-le-MAX_PLACES w ↦ sym (made_long _ _ (omega arith))
    ]
