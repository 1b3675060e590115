-- `io_hex::byte_of` meets its contract: what a digit counts fits four bits. Assumes nothing.
use native.Mathlib.Omega.{arith}
use Rattle.io_hex.proofs.Pairs.{digit_fits}
use Rattle.io_hex.proofs.byte_of.Goals as goal

pub overflow_mul-result : goal.overflow_mul-result
overflow_mul-result c = omega (arith, digit_fits c.args.high c.unwrap_or.ensures c.hex_value.ensures)

pub overflow_add-result : goal.overflow_add-result
overflow_add-result c =
    omega (
      arith,
      digit_fits c.args.high c.unwrap_or.ensures c.hex_value.ensures,
      digit_fits c.args.low c.unwrap_or-2.ensures c.hex_value-2.ensures,
    )
