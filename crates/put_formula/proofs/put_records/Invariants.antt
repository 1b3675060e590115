-- `put_formula::put_records` meets its contract: in its loop the units left to store make the whole. Assumes nothing.
use Rattle.put_formula.specs.Records.{records_of}
use Rattle.put_bytes.proofs.PutLoop.{PutSoFar}
use Prim.Native.Nat.{◌-◌}
use Rattle.put_formula.proofs.put_records.Given as goal

abbrev pub invariant-loop : goal.invariant-loop
invariant-loop l = PutSoFar l.initial.out l.at (records_of l.n l.s) l.out l.to (records_of (l.n - l.counter) l.left)
