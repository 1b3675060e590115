-- Two answers that meet a contract of this crate are equal. Assumes nothing.
use mathlib.Core.Path.{◌≡◌}
use mathlib.Core.List.{List}
use Prim.Native.Nat.{ℕ}
use Rattle.rules.specs.Answers as rules
use Rattle.answers.specs.Delivered.{Answer}
use Rattle.read_line.proofs.One.{answered_in_one}
use Rattle.run_writes.specs.Answered.{Written}

pub written_one : {room : ℕ} {a : rules.Answer} {d e f : List ℕ} {r q : Answer} → Written room a d e r → Written room a d f q → (e ≡ f) × (r ≡ q)
written_one {room} x y = answered_in_one room x.is x.rest y.is y.rest
