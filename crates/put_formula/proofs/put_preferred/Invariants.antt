-- `put_formula::put_preferred` meets its contract: in its loop the units left to copy make the whole. Assumes nothing.
use Rattle.put_formula.specs.Preferred.{preferred_units}
use Rattle.put_bytes.proofs.PutLoop.{PutSoFar}
use Prim.Native.Nat.{◌-◌}
use Rattle.put_formula.proofs.put_preferred.Given as goal

abbrev pub invariant-loop : goal.invariant-loop
invariant-loop l = PutSoFar l.initial.out l.at (preferred_units l.n l.s) l.out l.to (preferred_units (l.n - l.counter) l.left)
