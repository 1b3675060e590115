-- `scan_line::next` meets its contract: a class is a byte, so both reads are inside. Assumes nothing.
use Rattle.shape.specs.Tables.{kinds, rows_at}
use lib.ListN.{get_or}
use Prim.Native.Nat.{◌+◌, ◌*◌}
use Rattle.scan_line.specs.Steps.{step_by}
use mathlib.Core.Path.{refl}
use native.Mathlib.Omega.{arith}
use Rattle.scan_line.proofs.next.Goals as goal

pub overflow_cast-c-2 : goal.overflow_cast-c-2
overflow_cast-c-2 c = omega (arith, c.shared_slice_known-1.given c.args.b)

pub overflow_add-result-2 : goal.overflow_add-result-2
overflow_add-result-2 c = omega (arith, c.shared_slice_known-1.given c.args.b)

pub bounds-machine-q : goal.bounds-machine-q
bounds-machine-q c = omega (arith, c.shared_slice_known-1.given c.args.b)

pub overflow_cast-result : goal.overflow_cast-result
overflow_cast-result c = omega (arith, c.shared_slice_known-2-1.given (rows_at + c.args.q * kinds + get_or c.args.machine.now c.args.b 0))

pub returns : goal.returns
unfolding step_by
returns c = refl
