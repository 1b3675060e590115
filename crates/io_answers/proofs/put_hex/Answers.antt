-- `io_answers::put_hex` meets its contract: the bytes that are left make the whole. Assumes nothing.
use Rattle.io_answers.proofs.Texts.{hex_more, hex_none}
use Rattle.put_bytes.proofs.PutLoop.{begin, more, ends}
use mathlib.Core.Path.{refl}
use native.Mathlib.Omega.{arith}
use Rattle.io_answers.proofs.put_hex.Goals as goal

pub loop-b-init : goal.loop-b-init
loop-b-init c = begin (omega arith) (omega arith) refl

pub loop-b-preserved : goal.loop-b-preserved
loop-b-preserved c = more c.loop-b.invariant c.put_byte-to.ensures (hex_more _ _ c.loop-b-test.true)

pub returns : goal.returns
returns c = ends c.loop-b.invariant (hex_none _ _ c.loop-b-test.false)
