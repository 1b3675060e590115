-- `io_answers::put_hex` meets its contract: the bytes that are left make the whole. Assumes nothing.
use Rattle.io_answers.specs.Tells.{hex_byte}
use Rattle.put_bytes.proofs.PutLoop.{PutSoFar}
use Rattle.lang.specs.Parts.{flat}
use lib.ListN.{drop}
use Rattle.io_answers.proofs.put_hex.Given as goal

abbrev pub invariant-loop-b : goal.invariant-loop-b
invariant-loop-b l = PutSoFar l.initial.out l.at (flat hex_byte l.s) l.out l.to (flat hex_byte (drop l.b-index l.s))
